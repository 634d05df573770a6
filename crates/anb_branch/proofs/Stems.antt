-- All turns up to the choice, and going on behind it.
use Rattle.std.proofs.Common.{◌≡◌, ◌≢◌, ◌≤◌, ℕ, List, [], ◌∷◌, ◌++◌, length, refl, sym, ap, ◌∙◌, subst, append_assoc}
use Rattle.std.proofs.lemmas.List.{append-nil}
use Rattle.anb_plays.specs.Plays.{Run}
use Rattle.anb_base.specs.Wires.{WireState}
use Rattle.anb_machine.specs.Machines.{MachineValue, gives}
use Rattle.anb_session.specs.declared.PlayEnd.{PlayEnd}
use Rattle.anb_session.specs.declared.PlayEnd.TheVariants.{NoMemory}
use Rattle.anb_base.specs.declared.TheConstants.{ARRIVAL}
use Rattle.anb_frame.specs.Cuts.{CutLeft}
use Rattle.anb_session.specs.Turns.{Passes, Receives}
use Rattle.anb_session.proofs.Turning.{passes_nowhere, passes_joined, closes_behind}
use Rattle.anb_branch.specs.declared.stem.Step.TheVariants.{On, Arrived, Over}
use Rattle.anb_branch.specs.Stems.{AreBytes, AreShort, StandsBehind, AgreeUpTo, behind, GoesOn, Arrives, IsOver, Chooses, EndsBefore, CameWithin, GoesAlong, HeardUpTo, WentBy}
use Rattle.anb_branch.proofs.Behind.{stands_same, behind_waiting}

-- the turns so far, from the machine `first` to `now`
pub record Along (n : ℕ) (first now : MachineValue) (past : List (List ℕ)) (s t : WireState) : Type 0 where
  pub each : (R G : Run) → AgreeUpTo n R G → ((more : List (List ℕ)) → G more ≡ gives first more)
      → (sent : List (List ℕ)) × StandsBehind G past sent now × Passes R (behind R past (length sent)) s t

pub along_nothing : (n : ℕ) (v : MachineValue) (s : WireState) → Along n v v [] s s
along_nothing n v s = record {
  each = λ R G agree is. ([], record { comes = is }, passes_nowhere R s);
}

pub along_further : (n : ℕ) (first old new : MachineValue) (past past' : List (List ℕ)) (s t u : WireState)
    → Along n first old past s t → GoesOn n old new past past' t u → Along n first new past' s u
along_further n first old new past past' s t u along goes = record {
  each = λ R G agree is.
      let w = along.each R G agree is in
      let x = goes.each R G w.0 agree w.1 in
      (x.0, x.1, passes_joined R (behind R past (length w.0)) (behind R past' (length x.0)) s t u w.2 x.2);
}

pub along_over : (n : ℕ) (first old new : MachineValue) (past past' : List (List ℕ)) (s t u : WireState) (end : PlayEnd)
    → Along n first old past s t → IsOver n old new past past' t u end → EndsBefore n first new s u end
along_over n first old new past past' s t u end along over R G agree is =
    let w = along.each R G agree is in
    closes_behind R (behind R past (length w.0)) s t u end w.2 (over.each R G w.0 agree w.1)

pub along_arrived : (n : ℕ) (first old new : MachineValue) (past past' : List (List ℕ)) (s t u : WireState) (b : List ℕ) → length past ≤ n → AreBytes past → AreShort past
    → Along n first old past s t → Arrives n old new past past' t u b → Chooses n first new s u past' b
along_arrived n first old new past past' s t u b few bytes short along arrives = subst (λ p. Chooses n first new s u p b) (sym arrives.stays) (record {
  waits = arrives.waits;
  event = arrives.event;
  next = arrives.next;
  fits = arrives.fits;
  bytes = arrives.bytes;
  all = arrives.all;
  past_bytes = bytes;
  short = short;
  each = λ R G agree is.
      let w = along.each R G agree is in
      let R1 = behind R past (length w.0) in
      let waits = behind_waiting R G past w.0 old arrives.event (agree past few bytes) w.1 (arrives.same [] ∙ arrives.next) in (
        w.0,
        stands_same G past w.0 old new w.1 arrives.same,
        (arrives.event, arrives.next),
        λ R' comes. passes_joined R R1 R' s t u w.2 (arrives.hears R1 R' waits comes),
      );
})

-- ---- what is true of what is played

module _ {A : Type 0} (Follows : A → List (List ℕ) → A → Type 0) where
  pub by_nothing : (x y : A) (s t : WireState) → t.left ≡ s.left → Follows x [] y → WentBy Follows x y [] s t
  by_nothing x y s t same follows = record { follows = follows; first = λ arrivals tail cut. (arrivals, refl, subst (λ l. CutLeft ARRIVAL l arrivals tail) (sym same) cut) }

  pub by_hearing : (x y : A) (s t : WireState) (b : List ℕ) → Receives b s.left t.left → Follows x (b ∷ []) y → WentBy Follows x y (b ∷ []) s t
  by_hearing x y s t b receives follows = record { follows = follows; first = λ arrivals tail cut. receives.first arrivals tail cut }

  module _ (joined : (x y z : A) (some more : List (List ℕ)) → Follows x some y → Follows y more z → Follows x (some ++ more) z)
      (x y z : A) (machine : MachineValue) (past past' : List (List ℕ)) (s t u : WireState) (along : WentBy Follows x y past s t) where
    pub by_further : GoesAlong Follows y z machine past past' t u On → WentBy Follows x z past' s u
    by_further (used, went, is) = record {
      follows = subst (λ (l : List (List ℕ)). Follows x l z) (sym is) (joined x y z past used along.follows went.follows);
      first = λ arrivals tail cut.
          let f = along.first arrivals tail cut in
          let g = went.first f.0 tail f.2 in
          (g.0, f.1 ∙ ap (λ (l : List (List ℕ)). past ++ l) g.1 ∙ sym (append_assoc past used g.0) ∙ ap (λ (l : List (List ℕ)). l ++ g.0) (sym is), g.2);
    }

    pub by_arrived : (b : List ℕ) → past' ≡ past → GoesAlong Follows y z machine past past' t u (Arrived b) → HeardUpTo Follows x z past' b s u
    by_arrived b stays (follows, receives) = record {
      follows = subst (λ (l : List (List ℕ)). Follows x l z) (append-nil past ∙ sym stays) (joined x y z past [] along.follows follows);
      first = λ arrivals tail cut.
          let f = along.first arrivals tail cut in
          let h = receives.first f.0 tail f.2 in
          (h.0, f.1 ∙ ap (λ (l : List (List ℕ)). past ++ l) h.1 ∙ ap (λ (l : List (List ℕ)). l ++ (b ∷ h.0)) (sym stays), h.2);
    }

    pub by_over : (n : ℕ) (end : PlayEnd) → length past ≤ n → GoesAlong Follows y z machine past past' t u (Over end) → end ≢ NoMemory → CameWithin n Follows x z machine s end
    by_over n end few over some =
        let o = over some in (
          record {
            stop = o.stop;
            is = o.is;
            used = past;
            follows = subst (λ (l : List (List ℕ)). Follows x l z) (append-nil past) (joined x y z past [] along.follows o.follows);
            first = λ arrivals tail cut. let f = along.first arrivals tail cut in (f.0, f.1);
            stands = o.stands;
            awaits = o.awaits;
          },
          few,
        )
