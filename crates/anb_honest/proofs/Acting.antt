-- What a role that tells or hears next does not do.
use Rattle.std.proofs.Common.{◌≡◌, ℕ, List, [], ◌∷◌, sym, ap, ◌∙◌, inl, inr, ◌⊎◌}
use Rattle.anb_plays.specs.Plays.{Played, stopped, waiting, done, ends, says, Run}
use Rattle.std.proofs.Common.{subst}
use Rattle.anb_machine.specs.Machines.{MachineValue, gives, Turned}
use Rattle.anb_machine.specs.declared.turn.Turn.{Turn}
use Rattle.anb_machine.specs.declared.turn.Turn.TheVariants.{Message, Wants, Done}
use Rattle.anb_honest.specs.Acting.{TellsNow, HearsNow}

stop_wait : (x at e : ℕ) → stopped x at ≡ waiting e → ⊥
stop_wait x at e h = cc

stop_done : (x at : ℕ) → stopped x at ≡ done → ⊥
stop_done x at h = cc

wait_done : (e : ℕ) → waiting e ≡ done → ⊥
wait_done e h = cc

some_none : (b : List ℕ) (bs : List (List ℕ)) → b ∷ bs ≡ [] → ⊥
some_none b bs h = cc

pub tells_no_wait : (f : Run) (e : ℕ) → TellsNow f → f [] ≡ ends (waiting e) [] → ⊥
tells_no_wait f e (inl s) h = stop_wait s.0.event s.0.at e (ap (λ (q : Played (List ℕ)). q.end) (sym (s.1 []) ∙ h))
tells_no_wait f e (inr a) h = some_none a.0 (a.1 []).sent (ap (λ (q : Played (List ℕ)). q.sent) (sym (a.2 []) ∙ h))

pub tells_no_end : (f : Run) → TellsNow f → f [] ≡ ends done [] → ⊥
tells_no_end f (inl s) h = stop_done s.0.event s.0.at (ap (λ (q : Played (List ℕ)). q.end) (sym (s.1 []) ∙ h))
tells_no_end f (inr a) h = some_none a.0 (a.1 []).sent (ap (λ (q : Played (List ℕ)). q.sent) (sym (a.2 []) ∙ h))

pub hears_no_message : (f : Run) (b : List ℕ) (p : Played (List ℕ)) → HearsNow f → f [] ≡ says b p → ⊥
hears_no_message f b p (inl s) h = some_none b p.sent (ap (λ (q : Played (List ℕ)). q.sent) (sym h ∙ s.1 []))
hears_no_message f b p (inr a) h = some_none b p.sent (ap (λ (q : Played (List ℕ)). q.sent) (sym h ∙ a.1))

pub hears_no_end : (f : Run) → HearsNow f → f [] ≡ ends done [] → ⊥
hears_no_end f (inl s) h = stop_done s.0.event s.0.at (ap (λ (q : Played (List ℕ)). q.end) (sym (s.1 []) ∙ h))
hears_no_end f (inr a) h = wait_done a.0 (ap (λ (q : Played (List ℕ)). q.end) (sym a.1 ∙ h))

-- the turns that can't come
pub tells_not : (old new : MachineValue) (r : Turn) → Turned old new r → TellsNow (gives old) → ((e : ℕ) × (r ≡ Wants e)) ⊎ (r ≡ Done) → ⊥
tells_not old new r t h (inl m) = let q = subst (Turned old new) m.1 t in tells_no_wait (gives old) m.0 h (q.0 [] ∙ q.1)
tells_not old new r t h (inr d) = let q = subst (Turned old new) d t in tells_no_end (gives old) h (q.1 [])

pub hears_not : (old new : MachineValue) (r : Turn) → Turned old new r → HearsNow (gives old) → ((b : List ℕ) × (r ≡ Message b)) ⊎ (r ≡ Done) → ⊥
hears_not old new r t h (inl m) = let q = subst (Turned old new) m.1 t in hears_no_message (gives old) m.0 (gives new []) h (q.0 [])
hears_not old new r t h (inr d) = let q = subst (Turned old new) d t in hears_no_end (gives old) h (q.1 [])
