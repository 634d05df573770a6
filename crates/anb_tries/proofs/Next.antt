-- What is due behind lines, by a play of a plan.
use Rattle.std.proofs.Common.{◌≡◌, ℕ, zero, suc, ◌+◌, List, [], ◌∷◌, ◌++◌, length, drop, Bool, true, false, Option, Some, None, Result, Ok, Err, refl, sym, ap, ◌∙◌, subst, inl, inr, append_assoc, append-nil}
use Rattle.std.specs.List.{AllByRecursion}
use Rattle.anb_base.specs.Bytes.{IsBytes}
use Rattle.anb_machine.specs.declared.turn.Halt.{Halt}
use Rattle.anb_plays.specs.Plans.{Event, know, fresh, send, recv, known}
use Rattle.anb_plays.specs.Plays.{End, stopped, waiting, done, Played, Run, ends, says, Walk, Play}
use Rattle.anb_plays.specs.Runs.{no_place, without_place}
use Rattle.anb_term.specs.Tree.{Tree}
use Rattle.anb_term.specs.Value.{Meaning}
use Rattle.anb_transcript.specs.declared.following.Due.{Due}
use Rattle.anb_transcript.specs.declared.following.Due.TheVariants.{Send, Receive, End as Over}
use Rattle.anb_transcript.specs.declared.transcript.TranscriptLine.{TranscriptLine}
use Rattle.anb_transcript.specs.declared.transcript.TranscriptLine.TheVariants.{In, Out}
use Rattle.anb_transcript.specs.Replays.{AreDue, IsDue, arrivals_of, due_after, due_in, due_of, is_message, messages_of}
use Rattle.anb_judge.specs.Verdicts.{sides}
use Rattle.anb_tries.proofs.Along.{Fits, fits_none, next}

abbrev Text : Type 0
Text = List ℕ

-- the side of the next message is the one whose turn it is
abbrev pub AsDue : Result Due Halt → Option Bool → Type 0
AsDue (Ok (Send b)) side = side ≡ Some true
AsDue (Ok Receive) side = side ≡ Some false
AsDue (Ok Over) side = side ≡ None
AsDue (Err halt) side = Unit {0}

pub due_of_place : (l : List Text) (end : End) (side : Option Bool) → AsDue (due_of l (no_place end)) side → AsDue (due_of l end) side
due_of_place [] (stopped e at) side is = tt
due_of_place [] (waiting e) side is = is
due_of_place [] done side is = is
due_of_place (b ∷ l) end side is = is

stop_due : (n : ℕ) (xs : List Text) (e : ℕ) (p : Played Text) (side : Option Bool) → p ≡ ends (stopped e 0) xs → AsDue (due_in p n) side
stop_due n xs e p side is = subst (λ (q : Played Text). AsDue (due_in q n) side) (sym is) (by n) where
  by : (n : ℕ) → AsDue (due_in (ends (stopped e 0) xs) n) side
  by zero = tt
  by (suc n) = tt

first_due : (b : Text) (q p : Played Text) (side : Option Bool) → p ≡ says b q → side ≡ Some true → AsDue (due_in p 0) side
first_due b q p side is e = subst (λ (x : Played Text). AsDue (due_in x 0) side) (sym is) e

later_due : (b : Text) (q p : Played Text) (n : ℕ) (side : Option Bool) → p ≡ says b q → AsDue (due_in q n) side → AsDue (due_in p (suc n)) side
later_due b q p n side is e = subst (λ (x : Played Text). AsDue (due_in x (suc n)) side) (sym is) e

module _ (m : Meaning Text) (draw : ℕ → Text) where
  pub due_next : (es : List Event) (F : List Tree) (vs : List Text) (e i : ℕ) (ls : List TranscriptLine) (p : Played Text) → Fits (sides es) ls
      → Walk m draw es F vs e i (arrivals_of ls) p → AsDue (due_in p (length (messages_of ls))) (next (sides es) ls)
  due_next [] F vs e i [] p fits walk = subst (λ (q : Played Text). AsDue (due_in q 0) None) (sym walk) refl
  due_next [] F vs e i (l ∷ ls) p fits walk = absurd (cc)
  due_next (know t ∷ es) F vs e i ls p fits walk = due_next es F vs e i ls p fits walk
  due_next (fresh t ∷ es) F vs e i ls p fits walk = due_next es (F ++ t ∷ []) (vs ++ draw i ∷ []) e (i + 1) ls p fits walk
  due_next (send t ∷ es) F vs e i [] p fits walk = first_due walk.0 walk.1 p (Some true) walk.4 refl
  due_next (send t ∷ es) F vs e i (In b ∷ ls) p fits walk = absurd (cc)
  due_next (send t ∷ es) F vs e i (Out b ∷ ls) p fits walk =
      later_due walk.0 walk.1 p (length (messages_of ls)) (next (sides es) ls) walk.4 (due_next es F vs (e + 1) i ls walk.1 (cc) walk.3)
  due_next (recv t ∷ es) F vs e i [] p fits walk = subst (λ (q : Played Text). AsDue (due_in q 0) (Some false)) (sym walk) refl
  due_next (recv t ∷ es) F vs e i (Out b ∷ ls) p fits walk = absurd (cc)
  due_next (recv t ∷ es) F vs e i (In b ∷ ls) p fits (inl h) = due_next es (F ++ t ∷ []) (vs ++ b ∷ []) (e + 1) i ls p (cc) h.1
  due_next (recv t ∷ es) F vs e i (In b ∷ ls) p fits (inr h) = stop_due (length (messages_of ls)) (arrivals_of ls) (e + 1) p (next (sides es) ls) h.1

  pub play_due : (es : List Event) (init : List Text) (ls : List TranscriptLine) (p : Played Text) → Fits (sides es) ls
      → Play m draw es init (arrivals_of ls) p → AsDue (due_in p (length (messages_of ls))) (next (sides es) ls)
  play_due es init ls p fits (inl h) = due_next es (known es) init 0 0 ls p fits h.1
  play_due es init ls p fits (inr h) = stop_due (length (messages_of ls)) (arrivals_of ls) 0 p (next (sides es) ls) h.1

-- ---- lines that are due

-- a line goes the way of the next message
next_is : (d : Result Due Halt) (side : Option Bool) (l : TranscriptLine) → AsDue d side → IsDue d l → side ≡ Some (is_message l)
next_is (Ok (Send b)) side (Out c) turn is = turn
next_is (Ok (Send b)) side (In c) turn is = absurd is
next_is (Ok Receive) side (In c) turn is = turn
next_is (Ok Receive) side (Out c) turn is = absurd is
next_is (Ok Over) side (In c) turn is = absurd is
next_is (Ok Over) side (Out c) turn is = absurd is
next_is (Err halt) side (In c) turn is = absurd is
next_is (Err halt) side (Out c) turn is = absurd is

fits_more : (ss : List Bool) (ls : List TranscriptLine) (l : TranscriptLine) → Fits ss ls → next ss ls ≡ Some (is_message l) → Fits ss (ls ++ l ∷ [])
fits_more [] [] l fits is = absurd (cc)
fits_more [] (k ∷ ls) l fits is = absurd (cc)
fits_more (true ∷ ss) [] (Out b) fits is = ap (λ x. b ∷ x) (fits_none ss)
fits_more (true ∷ ss) [] (In b) fits is = absurd (cc)
fits_more (false ∷ ss) [] (In b) fits is = ap (λ x. b ∷ x) (fits_none ss)
fits_more (false ∷ ss) [] (Out b) fits is = absurd (cc)
fits_more (true ∷ ss) (Out b ∷ ls) l fits is = ap (λ x. b ∷ x) (fits_more ss ls l (cc) is)
fits_more (true ∷ ss) (In b ∷ ls) l fits is = absurd (cc)
fits_more (false ∷ ss) (In b ∷ ls) l fits is = ap (λ x. b ∷ x) (fits_more ss ls l (cc) is)
fits_more (false ∷ ss) (Out b ∷ ls) l fits is = absurd (cc)

-- what arrives in the first lines are bytes
pub first_arrive : (before rest : List TranscriptLine) → AllByRecursion IsBytes (arrivals_of (before ++ rest)) → AllByRecursion IsBytes (arrivals_of before)
first_arrive [] rest all = tt
first_arrive (In b ∷ before) rest all = (all.0, first_arrive before rest all.1)
first_arrive (Out b ∷ before) rest all = first_arrive before rest all

module _ (m : Meaning Text) (draw : ℕ → Text) (es : List Event) (init : List Text) (R : Run)
    (plays : (arrivals : List Text) → AllByRecursion IsBytes arrivals → Play m draw es init arrivals (without_place (R arrivals))) where
  -- what is due behind lines that go the ways of the plan
  pub due_as : (ls : List TranscriptLine) → AllByRecursion IsBytes (arrivals_of ls) → Fits (sides es) ls → AsDue (due_after R ls) (next (sides es) ls)
  due_as ls bytes fits =
      let r = R (arrivals_of ls) in
      due_of_place (drop (length (messages_of ls)) r.sent) r.end (next (sides es) ls) (play_due m draw es init ls (without_place r) fits (plays (arrivals_of ls) bytes))

  more_fit : (own before rest : List TranscriptLine) → AreDue R own → own ≡ before ++ rest → AllByRecursion IsBytes (arrivals_of own) → Fits (sides es) before → Fits (sides es) own
  more_fit own before [] due is bytes fits = subst (Fits (sides es)) (sym (is ∙ append-nil before)) fits
  more_fit own before (l ∷ rest) due is bytes fits =
      let here = first_arrive before (l ∷ rest) (subst (λ ls. AllByRecursion IsBytes (arrivals_of ls)) is bytes) in
      let side = next_is (due_after R before) (next (sides es) before) l (due_as before here fits) (due before rest l is) in
      more_fit own (before ++ l ∷ []) rest due (is ∙ sym (append_assoc before (l ∷ []) rest)) bytes (fits_more (sides es) before l fits side)

  -- lines that are due go the ways of the plan
  pub due_fit : (own : List TranscriptLine) → AreDue R own → AllByRecursion IsBytes (arrivals_of own) → Fits (sides es) own
  due_fit own due bytes = more_fit own [] own due refl bytes (fits_none (sides es))
