-- Exactly one end comes of a transcript.
use Rattle.std.proofs.Common.{◌≡◌, ◌≢◌, ◌⊎◌, inl, inr, ◌+◌, ℕ, List, [], ◌∷◌, ◌++◌, length, Result, Ok, Err, refl, sym, ap, subst, ◌∙◌, append_assoc}
use Rattle.std.specs.Str.{bytes_eq}
use Rattle.std.proofs.lemmas.Bool.{cases_Bool, false≢true}
use Rattle.std.proofs.lemmas.List.{append-nil}
use Rattle.std.proofs.lemmas.Slice.Eq.{bytes_eq-Decides}
use Rattle.anb_plays.specs.Plays.{Played}
use Rattle.anb_machine.specs.declared.turn.Halt.{Halt}
use Rattle.anb_transcript.specs.declared.transcript.TranscriptLine.{TranscriptLine}
use Rattle.anb_transcript.specs.declared.transcript.TranscriptLine.TheVariants.{In, Out}
use Rattle.anb_transcript.specs.declared.following.Due.{Due}
use Rattle.anb_transcript.specs.declared.following.Due.TheVariants.{Send, Receive, End}
use Rattle.anb_transcript.specs.declared.following.ReplayEnd.{ReplayEnd}
use Rattle.anb_transcript.specs.declared.following.ReplayEnd.TheVariants.{Follows, Differs, Short, Stopped, NoMemory}
use Rattle.anb_transcript.specs.Replays.{IsDue, AreDue, Replays, ReplaysOne, due_after, last_arrival}
use Rattle.anb_transcript.proofs.Reached.{none_are_due, more_are_due}

-- ---- the end, by what is due behind the lines that are covered

abbrev verdict : Result Due Halt → (before after : List TranscriptLine) → ReplayEnd
verdict (Err halt) before after = Stopped halt (last_arrival before)
verdict (Ok due) before (line ∷ after) = Differs (length before + 1) due
verdict (Ok End) before [] = Follows
verdict (Ok Receive) before [] = Short (length before + 1)
verdict (Ok (Send message)) before [] = Short (length before + 1)

-- the next line isn't what is due
abbrev IsStuck : Result Due Halt → List TranscriptLine → Type 0
IsStuck due after = (line : TranscriptLine) (rest : List TranscriptLine) → after ≡ line ∷ rest → IsDue due line → ⊥

stopped_is_stuck : (halt : Halt) (after : List TranscriptLine) → IsStuck (Err halt) after
stopped_is_stuck halt after line rest e due = due

nothing_is_stuck : (due : Result Due Halt) → IsStuck due []
nothing_is_stuck due line rest e is = cc

another_is_stuck : (due : Result Due Halt) (line : TranscriptLine) (after : List TranscriptLine) → (IsDue due line → ⊥) → IsStuck due (line ∷ after)
another_is_stuck due line after none other rest e is = let same : other ≡ line = cc in none (rw same at is)

module _ (R : List (List ℕ) → Played (List ℕ)) where
  -- the lines that are covered, and those behind
  record Settled (lines : List TranscriptLine) (end : ReplayEnd) : Type 0 where
    before : List TranscriptLine
    after : List TranscriptLine
    is : lines ≡ before ++ after
    due : AreDue R before
    stuck : IsStuck (due_after R before) after
    end_is : end ≡ verdict (due_after R before) before after

  short : (event : ℕ) (lines : List TranscriptLine) (due : Due) → due ≢ End → event ≡ length lines + 1 → Short event ≡ verdict (Ok due) lines []
  short event lines (Send message) some at = ap Short at
  short event lines Receive some at = ap Short at
  short event lines End some at = absurd (some refl)

  settled : (lines : List TranscriptLine) (end : ReplayEnd) → end ≢ NoMemory → Replays R lines end → Settled lines end
  settled lines Follows some h = record { before = lines; after = []; is = sym (append-nil lines); due = h.0; stuck = nothing_is_stuck (due_after R lines); end_is = rw h.1 refl }
  settled lines (Differs n due) some h = record {
    before = h.0;
    after = h.1 ∷ h.2;
    is = h.3;
    due = h.5;
    stuck = rw h.6 (another_is_stuck (Ok due) h.1 h.2 h.7);
    end_is = rw (h.6, h.4) refl;
  }
  settled lines (Short event) some h = record { before = lines; after = []; is = sym (append-nil lines); due = h.1; stuck = nothing_is_stuck (due_after R lines); end_is = rw h.2 (short event lines h.0 h.3 h.4) }
  settled lines (Stopped halt n) some h = record { before = h.0; after = h.1; is = h.2; due = h.4; stuck = rw h.5 (stopped_is_stuck halt h.1); end_is = rw (h.5, h.3) refl }
  settled lines NoMemory some h = absurd (some refl)

  replays : (due : Result Due Halt) (before after : List TranscriptLine) → due_after R before ≡ due → AreDue R before → IsStuck due after
      → (one : ReplayEnd) × (one ≢ NoMemory) × Replays R (before ++ after) one
  replays (Err halt) before after is are stuck = (Stopped halt (last_arrival before), λ e. cc, (before, after, refl, refl, are, is))
  replays (Ok due) before (line ∷ after) is are stuck = (Differs (length before + 1) due, λ e. cc, (before, line, after, refl, refl, are, is, stuck line after refl))
  replays (Ok End) before [] is are stuck = (Follows, λ e. cc, rw (append-nil before) (are, is))
  replays (Ok Receive) before [] is are stuck = (Short (length before + 1), λ e. cc, rw (append-nil before) (Receive, are, is, λ e. cc, refl))
  replays (Ok (Send message)) before [] is are stuck = (Short (length before + 1), λ e. cc, rw (append-nil before) (Send message, are, is, λ e. cc, refl))

-- ---- some end comes

is_due_or_not : (due : Result Due Halt) (line : TranscriptLine) → IsDue due line ⊎ (IsDue due line → ⊥)
is_due_or_not (Err halt) line = inr (λ is. is)
is_due_or_not (Ok End) line = inr (λ is. is)
is_due_or_not (Ok Receive) (In arrival) = inl tt
is_due_or_not (Ok Receive) (Out message) = inr (λ is. is)
is_due_or_not (Ok (Send due)) (In arrival) = inr (λ is. is)
is_due_or_not (Ok (Send due)) (Out message) = elim (cases_Bool (bytes_eq message due)) [
  | inl yes' ↦ inl ((bytes_eq-Decides message due).0 yes')
  | inr no' ↦ inr (λ is. false≢true (sym no' ∙ (bytes_eq-Decides message due).1 is))
]

some_end : (R : List (List ℕ) → Played (List ℕ)) (before after : List TranscriptLine) → AreDue R before → (one : ReplayEnd) × (one ≢ NoMemory) × Replays R (before ++ after) one
some_end R before [] are = replays R (due_after R before) before [] refl are (nothing_is_stuck (due_after R before))
some_end R before (line ∷ after) are = elim (is_due_or_not (due_after R before) line) [
  | inl is ↦
      subst (λ (lines : List TranscriptLine). (one : ReplayEnd) × (one ≢ NoMemory) × Replays R lines one) (append_assoc before (line ∷ []) after)
      (some_end R (before ++ line ∷ []) after (more_are_due R before line are is))
  | inr none ↦ replays R (due_after R before) before (line ∷ after) refl are (another_is_stuck (due_after R before) line after none)
]

-- ---- and no other

-- of two parts of a list in front one begins with the other
data Fronts (b1 a1 b2 a2 : List TranscriptLine) : Type 0 where
  same : b1 ≡ b2 → a1 ≡ a2 → Fronts b1 a1 b2 a2
  longer : (line : TranscriptLine) (rest : List TranscriptLine) → b2 ≡ b1 ++ line ∷ rest → a1 ≡ line ∷ (rest ++ a2) → Fronts b1 a1 b2 a2
  shorter : (line : TranscriptLine) (rest : List TranscriptLine) → b1 ≡ b2 ++ line ∷ rest → a2 ≡ line ∷ (rest ++ a1) → Fronts b1 a1 b2 a2

fronts : (b1 a1 b2 a2 : List TranscriptLine) → b1 ++ a1 ≡ b2 ++ a2 → Fronts b1 a1 b2 a2
fronts [] a1 [] a2 e = same refl e
fronts [] a1 (y ∷ b2) a2 e = longer y b2 refl e
fronts (x ∷ b1) a1 [] a2 e = shorter x b1 refl (sym e)
fronts (x ∷ b1) a1 (y ∷ b2) a2 e =
    let head : x ≡ y = cc in
    let tail : b1 ++ a1 ≡ b2 ++ a2 = cc in
    further x y b1 a1 b2 a2 head (fronts b1 a1 b2 a2 tail) where
      further : (x y : TranscriptLine) (b1 a1 b2 a2 : List TranscriptLine) → x ≡ y → Fronts b1 a1 b2 a2 → Fronts (x ∷ b1) a1 (y ∷ b2) a2
      further x y b1 a1 b2 a2 head (same e f) = same (cc) f
      further x y b1 a1 b2 a2 head (longer line rest e f) = longer line rest (cc) f
      further x y b1 a1 b2 a2 head (shorter line rest e f) = shorter line rest (cc) f

module _ (R : List (List ℕ) → Played (List ℕ)) where
  -- what is covered covers nothing behind a place where a replay settles
  not_beyond : (b1 a1 b2 rest more : List TranscriptLine) (line : TranscriptLine) → AreDue R b2 → IsStuck (due_after R b1) a1 → b2 ≡ b1 ++ line ∷ rest → a1 ≡ line ∷ more → ⊥
  not_beyond b1 a1 b2 rest more line are stuck e f = stuck line more f (are b1 rest line e)

  one_place : (lines : List TranscriptLine) (one other : ReplayEnd) → Settled R lines one → Settled R lines other → other ≡ one
  one_place lines one other s t = by_front (fronts s.before s.after t.before t.after (sym s.is ∙ t.is)) where
    by_front : Fronts s.before s.after t.before t.after → other ≡ one
    by_front (same e f) = t.end_is ∙ rw (e, f) refl ∙ sym s.end_is
    by_front (longer line rest e f) = absurd (not_beyond s.before s.after t.before rest (rest ++ t.after) line t.due s.stuck e f)
    by_front (shorter line rest e f) = absurd (not_beyond t.before t.after s.before rest (rest ++ s.after) line s.due t.stuck e f)

pub replays_one : ReplaysOne
replays_one R lines =
    let one = some_end R [] lines (none_are_due R) in
    (one.0, one.1, one.2, λ other some h. one_place R lines one.0 other (settled R lines one.0 one.1 one.2) (settled R lines other some h))
