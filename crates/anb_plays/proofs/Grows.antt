-- A run over more arrivals goes on from where it waited, and is the same where it was over.
use Rattle.std.proofs.Common.{ℕ, ◌+◌, List, [], ◌∷◌, ◌++◌, Bool, true, false, cond, Option, Some, None, refl, ap, inl, inr, ◌≡◌, sym, ◌∙◌, append_assoc}
use Rattle.anb_term.specs.Value.{Meaning, RecipeTree, value}
use Rattle.anb_term.specs.Demand.{all_hold}
use Rattle.anb_plays.specs.Plays.{Played, stopped, ends, says, SendsFirst}
use Rattle.anb_plays.specs.Codes.{Act, takes, draws, receives, sends, works, at_register, writes, demands}
use Rattle.anb_plays.specs.Runs.{says_if, run_from}
use Rattle.anb_plays.specs.Statements.{Grows, RunGrows}

says_grows : {A : Type 0} (b : A) (p q : Played A) (more : List A) → Grows p q more → Grows (says b p) (says b q) more
says_grows b p q more (inl w) = inl (w.0, w.1, w.2, w.3, ap (λ l. b ∷ l) w.4)
says_grows b p q more (inr w) = inr (w.0, ap (says b) w.1)

spoken : {A : Type 0} (o : Option A) (p q : Played A) (more : List A) → Grows p q more → Grows (says_if o p) (says_if o q) more
spoken None p q more g = g
spoken (Some b) p q more g = says_grows b p q more g

branch : {A : Type 0} (b : Bool) (e at : ℕ) (arrivals more : List A) (p q : Played A) → Grows p q more
    → Grows (cond b p (ends (stopped e at) arrivals)) (cond b q (ends (stopped e at) (arrivals ++ more))) more
branch true e at arrivals more p q g = g
branch false e at arrivals more p q g = inr (λ k h. cc, refl)

module _ {A : Type 0} (m : Meaning A) (draw : ℕ → A) (more : List A) where
  grows : (acts : List Act) (regs : List RecipeTree) (vs : List A) (e at i : ℕ) (arrivals : List A)
      → Grows (run_from m draw acts regs vs e at i arrivals) (run_from m draw acts regs vs e at i (arrivals ++ more)) more
  grows [] regs vs e at i arrivals = inr (λ k h. cc, refl)
  grows (takes ∷ acts) regs vs e at i arrivals = grows acts _ vs e (at + 1) i arrivals
  grows (draws ∷ acts) regs vs e at i arrivals = grows acts _ _ e (at + 1) (i + 1) arrivals
  grows (receives ∷ acts) regs vs e at i [] = inl (e + 1, refl, refl, (run_from m draw (receives ∷ acts) regs vs e at i more).sent, refl)
  grows (receives ∷ acts) regs vs e at i (x ∷ arrivals) = grows acts _ _ (e + 1) (at + 1) i arrivals
  grows (sends n ∷ acts) regs vs e at i arrivals = spoken (value m vs (at_register regs n)) _ _ more (grows acts regs vs (e + 1) (at + 1) i arrivals)
  grows (works w ∷ acts) regs vs e at i arrivals =
      branch (all_hold m vs (demands regs w)) e (at + 1) arrivals more _ _ (grows acts (regs ++ writes regs w) vs e (at + 1) i arrivals)

pub run_grows : {A : Type 0} (m : Meaning A) → RunGrows m
run_grows m draw code init arrivals more = grows m draw more code [] init 0 0 0 arrivals

pub sends_saying : (p q r : Played (List ℕ)) (sent : List (List ℕ)) (b : List ℕ) → SendsFirst p sent q → q ≡ says b r → SendsFirst p (sent ++ b ∷ []) r
sends_saying p q r sent b f e =
    f ∙ ap (λ (x : Played (List ℕ)). record x { sent = sent ++ x.sent }) e
    ∙ ap (λ (l : List (List ℕ)). record r { sent = l }) (sym (append_assoc sent (b ∷ []) r.sent))

pub sends_on : (p q r : Played (List ℕ)) (sent : List (List ℕ)) → SendsFirst p sent q → q ≡ r → SendsFirst p sent r
sends_on p q r sent f e = f ∙ ap (λ (x : Played (List ℕ)). record x { sent = sent ++ x.sent }) e
