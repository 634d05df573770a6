-- How far a run is followed.
use Rattle.std.proofs.Common.{◌≡◌, ◌<◌, ◌≤◌, ◌⊎◌, inl, inr, ◌+◌, ℕ, zero, suc, subst, List, [], ◌∷◌, ◌++◌, length, take, drop, get_or, refl, sym, ap, ◌∙◌, append_assoc, arith, length-append}
use Rattle.std.proofs.Math.Seq.{drop-append_seam}
use Rattle.std.proofs.lemmas.List.{append-nil, reverse-append, take_more, drop_more, take-append-drop}
use Rattle.std.specs.List.{AllByRecursion}
use Rattle.anb_base.specs.declared.TheConstants.{ARRIVAL}
use Rattle.anb_plays.specs.Plays.{Played, says}
use Rattle.anb_transcript.specs.declared.transcript.TranscriptLine.{TranscriptLine}
use Rattle.anb_transcript.specs.declared.transcript.TranscriptLine.TheVariants.{In, Out}
use Rattle.anb_transcript.specs.declared.following.ReplayEnd.{ReplayEnd}
use Rattle.anb_transcript.specs.declared.following.ReplayEnd.TheVariants.{Follows, Differs, Short, Stopped, NoMemory}
use Rattle.anb_transcript.specs.Replays.{IsDue, AreDue, Replays, arrivals_of, messages_of, due_after, last_arrival}
use Rattle.anb_transcript.specs.Turns.{Covers, EndsAt, EndsBehind, IsShort}

-- ---- lists of lines

arrivals_of-append : (xs ys : List TranscriptLine) → arrivals_of (xs ++ ys) ≡ arrivals_of xs ++ arrivals_of ys
arrivals_of-append [] ys = refl
arrivals_of-append (In b ∷ xs) ys = ap (λ t. b ∷ t) (arrivals_of-append xs ys)
arrivals_of-append (Out b ∷ xs) ys = arrivals_of-append xs ys

messages_of-append : (xs ys : List TranscriptLine) → messages_of (xs ++ ys) ≡ messages_of xs ++ messages_of ys
messages_of-append [] ys = refl
messages_of-append (In b ∷ xs) ys = messages_of-append xs ys
messages_of-append (Out b ∷ xs) ys = ap (λ t. b ∷ t) (messages_of-append xs ys)

-- the number of the last arrival, with a line more
last_arrival-in : (lines : List TranscriptLine) (b : List ℕ) → last_arrival (lines ++ In b ∷ []) ≡ length lines + 1
last_arrival-in lines b = rw (reverse-append lines (In b ∷ [])) (omega (arith, length-append lines (In b ∷ [])))

last_arrival-out : (lines : List TranscriptLine) (b : List ℕ) → last_arrival (lines ++ Out b ∷ []) ≡ last_arrival lines
last_arrival-out lines b = rw (reverse-append lines (Out b ∷ [])) (omega (arith, length-append lines (Out b ∷ [])))

pub heard_in : (lines : List TranscriptLine) (line : TranscriptLine) (b : List ℕ) (n : ℕ) → line ≡ In b → n ≡ length lines + 1 → n ≡ last_arrival (lines ++ line ∷ [])
heard_in lines line b n is at = rw is (at ∙ sym (last_arrival-in lines b))

pub heard_before : (lines : List TranscriptLine) (line : TranscriptLine) (n : ℕ) → ((b : List ℕ) → line ≡ In b → ⊥) → n ≡ last_arrival lines → n ≡ last_arrival (lines ++ line ∷ [])
heard_before lines (In b) n none at = absurd (none b refl)
heard_before lines (Out b) n none at = at ∙ sym (last_arrival-out lines b)

module _ (lines : List TranscriptLine) (i : ℕ) (line : TranscriptLine) (within : i < length lines) (is : line ≡ get_or lines i line) where
  pub taken : take (i + 1) lines ≡ take i lines ++ line ∷ []
  taken = take_more lines i line within ∙ ap (λ x. take i lines ++ x ∷ []) (sym is)

  pub parted : lines ≡ take i lines ++ line ∷ drop (i + 1) lines
  parted = sym (take-append-drop i lines) ∙ ap (λ t. take i lines ++ t) (drop_more lines i line within ∙ ap (λ x. x ∷ drop (i + 1) lines) (sym is))

-- a line of a list is its last one, or stands before that
last_or_within : (xs before after : List TranscriptLine) (x line : TranscriptLine) → xs ++ x ∷ [] ≡ before ++ line ∷ after
    → ((before ≡ xs) × (line ≡ x)) ⊎ ((rest : List TranscriptLine) × (xs ≡ before ++ line ∷ rest))
last_or_within [] [] after x line e = inl (refl, cc)
last_or_within [] (b ∷ before) after x line e = absurd (omega (arith, ap (length {A = TranscriptLine}) e, length-append before (line ∷ after)))
last_or_within (y ∷ xs) [] after x line e = inr (xs, cc)
last_or_within (y ∷ xs) (b ∷ before) after x line e =
    let tail : xs ++ x ∷ [] ≡ before ++ line ∷ after = cc in
    let head : y ≡ b = cc in
    elim (last_or_within xs before after x line tail) [ inl h ↦ inl (cc, h.1) | inr h ↦ inr (h.0, cc) ]

module _ (R : List (List ℕ) → Played (List ℕ)) where
  pub none_are_due : AreDue R []
  none_are_due before after line e = absurd (omega (arith, ap (length {A = TranscriptLine}) e, length-append before (line ∷ after)))

  pub more_are_due : (lines : List TranscriptLine) (line : TranscriptLine) → AreDue R lines → IsDue (due_after R lines) line → AreDue R (lines ++ line ∷ [])
  more_are_due lines line due is before after l e = elim (last_or_within lines before after line l e) [
    | inl h ↦ rw (h.0, h.1) is
    | inr h ↦ due before h.0 l h.1
  ]

-- ---- a run that is followed up to here, from where it gives what R' gives

pub record Reached (R R' : List (List ℕ) → Played (List ℕ)) (lines : List TranscriptLine) : Type 0 where
  pub sent : (xs : List (List ℕ)) → (R (arrivals_of lines ++ xs)).sent ≡ messages_of lines ++ (R' xs).sent
  pub ends : (xs : List (List ℕ)) → (R (arrivals_of lines ++ xs)).end ≡ (R' xs).end
  pub due : AreDue R lines

pub reached_here : (R : List (List ℕ) → Played (List ℕ)) → Reached R R []
reached_here R = record { sent = λ xs. refl; ends = λ xs. refl; due = none_are_due R }

pub due_there : (R R' : List (List ℕ) → Played (List ℕ)) (lines : List TranscriptLine) → Reached R R' lines → due_after R lines ≡ due_after R' []
due_there R R' lines reached =
    let none : arrivals_of lines ≡ arrivals_of lines ++ [] = sym (append-nil (arrivals_of lines)) in
    let sent : (R (arrivals_of lines)).sent ≡ messages_of lines ++ (R' []).sent = ap (λ xs. (R xs).sent) none ∙ reached.sent [] in
    let ends : (R (arrivals_of lines)).end ≡ (R' []).end = ap (λ xs. (R xs).end) none ∙ reached.ends [] in
    rw (sent, ends, drop-append_seam (messages_of lines) (R' []).sent) refl

module _ (R R' R'' : List (List ℕ) → Played (List ℕ)) (lines : List TranscriptLine) (reached : Reached R R' lines) where
  heard_further : (b : List ℕ) → ((xs : List (List ℕ)) → R' (b ∷ xs) ≡ R'' xs) → IsDue (due_after R' []) (In b) → Reached R R'' (lines ++ In b ∷ [])
  heard_further b comes due = record {
    sent = λ xs. rw (arrivals_of-append lines (In b ∷ []), append_assoc (arrivals_of lines) (b ∷ []) xs, messages_of-append lines (In b ∷ []), append-nil (messages_of lines)) (reached.sent (b ∷ xs) ∙ ap (λ (p : Played (List ℕ)). messages_of lines ++ p.sent) (comes xs));
    ends = λ xs. rw (arrivals_of-append lines (In b ∷ []), append_assoc (arrivals_of lines) (b ∷ []) xs) (reached.ends (b ∷ xs) ∙ ap (λ (p : Played (List ℕ)). p.end) (comes xs));
    due = more_are_due R lines (In b) reached.due (rw (due_there R R' lines reached) due);
  }

  said_further : (b : List ℕ) → ((xs : List (List ℕ)) → R' xs ≡ says b (R'' xs)) → IsDue (due_after R' []) (Out b) → Reached R R'' (lines ++ Out b ∷ [])
  said_further b comes due = record {
    sent = λ xs. rw (arrivals_of-append lines (Out b ∷ []), append-nil (arrivals_of lines), messages_of-append lines (Out b ∷ []), append_assoc (messages_of lines) (b ∷ []) (R'' xs).sent) (reached.sent xs ∙ ap (λ (p : Played (List ℕ)). messages_of lines ++ p.sent) (comes xs));
    ends = λ xs. rw (arrivals_of-append lines (Out b ∷ []), append-nil (arrivals_of lines)) (reached.ends xs ∙ ap (λ (p : Played (List ℕ)). p.end) (comes xs));
    due = more_are_due R lines (Out b) reached.due (rw (due_there R R' lines reached) due);
  }

  pub reached_further : (line : TranscriptLine) → Covers R' R'' line → Reached R R'' (lines ++ line ∷ [])
  reached_further (In b) covers = heard_further b covers.on covers.due
  reached_further (Out b) covers = said_further b covers.on covers.due

module _ (R R' : List (List ℕ) → Played (List ℕ)) (before : List TranscriptLine) (reached : Reached R R' before) where
  pub ends_at : (lines after : List TranscriptLine) (line : TranscriptLine) (number heard : ℕ) (end : ReplayEnd)
      → lines ≡ before ++ line ∷ after → number ≡ length before + 1 → heard ≡ last_arrival before → EndsAt R' line number heard end → Replays R lines end
  ends_at lines after line number heard Follows is at last h = absurd h
  ends_at lines after line number heard (Differs n due) is at last h = (before, line, after, is, h.0 ∙ at, reached.due, due_there R R' before reached ∙ h.1, h.2)
  ends_at lines after line number heard (Short event) is at last h = absurd h
  ends_at lines after line number heard (Stopped halt n) is at last h = (before, line ∷ after, is, h.0 ∙ last, reached.due, due_there R R' before reached ∙ h.1)
  ends_at lines after line number heard NoMemory is at last h = tt

  pub ends_behind : (covered heard : ℕ) (end : ReplayEnd) → covered ≡ length before → heard ≡ last_arrival before → EndsBehind R' covered heard end → Replays R before end
  ends_behind covered heard Follows at last h = (reached.due, due_there R R' before reached ∙ h)
  ends_behind covered heard (Differs n due) at last h = absurd h
  ends_behind covered heard (Short event) at last h = (h.0, reached.due, due_there R R' before reached ∙ h.1, h.2, h.3 ∙ ap (λ (n : ℕ). n + 1) at)
  ends_behind covered heard (Stopped halt n) at last h = (before, [], sym (append-nil before), h.0 ∙ last, reached.due, due_there R R' before reached ∙ h.1)
  ends_behind covered heard NoMemory at last h = tt

-- each arrival is short
pub short_at : (lines : List TranscriptLine) (i : ℕ) (line : TranscriptLine) → AllByRecursion (λ arrival. length arrival ≤ ARRIVAL) (arrivals_of lines) → i < length lines → line ≡ get_or lines i line → IsShort line
short_at [] i line all h e = absurd (omega (arith, h))
short_at (In arrival ∷ lines) zero line all h e = subst IsShort (sym e) all.0
short_at (In arrival ∷ lines) (suc i) line all h e = short_at lines i line all.1 (omega (arith, h)) e
short_at (Out message ∷ lines) zero line all h e = subst IsShort (sym e) tt
short_at (Out message ∷ lines) (suc i) line all h e = short_at lines i line all (omega (arith, h)) e
