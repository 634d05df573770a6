-- How far a run is, by the lines of its own.
use Rattle.std.proofs.Common.{◌≡◌, ◌⊎◌, inl, inr, ℕ, List, [], ◌∷◌, ◌++◌, length, drop, Ok, Err, refl, sym, ap, ◌∙◌, subst, append_assoc}
use Rattle.anb_plays.specs.Plays.{Played, Run, SendsFirst, ends, says, stopped, waiting, done}
use Rattle.anb_machine.specs.Machines.{MachineValue, gives, GiveSame}
use Rattle.anb_machine.specs.declared.turn.Halt.{Halt}
use Rattle.anb_transcript.specs.declared.transcript.TranscriptLine.{TranscriptLine}
use Rattle.anb_transcript.specs.declared.transcript.TranscriptLine.TheVariants.{In, Out}
use Rattle.anb_transcript.specs.declared.following.Due.TheVariants.{Send, Receive, End}
use Rattle.anb_transcript.specs.Replays.{IsDue, AreDue, arrivals_of, messages_of, due_after, due_of}
use Rattle.anb_transcript.proofs.Reached.{none_are_due, more_are_due}
use Rattle.anb_partner.specs.Steps.{Reaches}

-- ---- lists of lines

pub arrivals_of-append : (xs ys : List TranscriptLine) → arrivals_of (xs ++ ys) ≡ arrivals_of xs ++ arrivals_of ys
arrivals_of-append [] ys = refl
arrivals_of-append (In b ∷ xs) ys = ap (λ t. b ∷ t) (arrivals_of-append xs ys)
arrivals_of-append (Out b ∷ xs) ys = arrivals_of-append xs ys

pub messages_of-append : (xs ys : List TranscriptLine) → messages_of (xs ++ ys) ≡ messages_of xs ++ messages_of ys
messages_of-append [] ys = refl
messages_of-append (In b ∷ xs) ys = messages_of-append xs ys
messages_of-append (Out b ∷ xs) ys = ap (λ t. b ∷ t) (messages_of-append xs ys)

dropped : (xs ys zs : List (List ℕ)) → drop (length (xs ++ ys)) (xs ++ zs) ≡ drop (length ys) zs
dropped [] ys zs = refl
dropped (x ∷ xs) ys zs = dropped xs ys zs

-- a line of two lists is one of the first, or one of the second
split : (own next before after : List TranscriptLine) (line : TranscriptLine) → own ++ next ≡ before ++ line ∷ after
    → ((rest : List TranscriptLine) × (own ≡ before ++ line ∷ rest)) ⊎ ((later : List TranscriptLine) × (before ≡ own ++ later) × (next ≡ later ++ line ∷ after))
split [] next before after line e = inr (before, refl, e)
split (x ∷ own) next [] after line e = inl (own, cc)
split (x ∷ own) next (b ∷ before) after line e =
    let tail : own ++ next ≡ before ++ line ∷ after = cc in
    let head : x ≡ b = cc in
    elim (split own next before after line tail) [
      | inl h ↦ inl (h.0, cc)
      | inr h ↦ inr (h.0, cc, h.2)
    ]

-- ---- runs

-- what is due behind further lines, by the run that goes on
pub due_behind : (R N : Run) (own ys : List TranscriptLine) → Reaches R N own → due_after R (own ++ ys) ≡ due_after N ys
due_behind R N own ys reaches =
    let q = N (arrivals_of ys) in
    let first : R (arrivals_of (own ++ ys)) ≡ record q { sent = messages_of own ++ q.sent } = ap R (arrivals_of-append own ys) ∙ reaches.on (arrivals_of ys) in
    rw (first, messages_of-append own ys) (ap (λ l. due_of l q.end) (dropped (messages_of own) (messages_of ys) q.sent))

pub reaches_here : (R : Run) → Reaches R R []
reaches_here R = record { due = none_are_due R; on = λ xs. refl }

pub due_joined : (R N : Run) (own next : List TranscriptLine) → Reaches R N own → AreDue N next → AreDue R (own ++ next)
due_joined R N own next one two before after line e = elim (split own next before after line e) [
  | inl h ↦ one.due before h.0 line h.1
  | inr h ↦ rw h.1 (subst (λ d. IsDue d line) (sym (due_behind R N own h.0 one)) (two h.0 after line h.2))
]

pub reaches_joined : (R N M : Run) (own next : List TranscriptLine) → Reaches R N own → Reaches N M next → Reaches R M (own ++ next)
reaches_joined R N M own next one two = record { due = due_joined R N own next one two.due; on = on } where
  on : (xs : List (List ℕ)) → SendsFirst (R (arrivals_of (own ++ next) ++ xs)) (messages_of (own ++ next)) (M xs)
  on xs =
      let q = M xs in
      let there : R (arrivals_of (own ++ next) ++ xs) ≡ R (arrivals_of own ++ (arrivals_of next ++ xs)) =
      ap R (ap (λ l. l ++ xs) (arrivals_of-append own next) ∙ append_assoc (arrivals_of own) (arrivals_of next) xs) in
      let both : messages_of own ++ (messages_of next ++ q.sent) ≡ messages_of (own ++ next) ++ q.sent =
      sym (append_assoc (messages_of own) (messages_of next) q.sent) ∙ ap (λ l. l ++ q.sent) (sym (messages_of-append own next)) in
      there ∙ one.on (arrivals_of next ++ xs) ∙ ap (λ (p : Played (List ℕ)). record p { sent = messages_of own ++ p.sent }) (two.on xs) ∙ ap (λ l. record q { sent = l }) both

-- ---- one line

pub waits_for : (R N : Run) (e : ℕ) → ((xs : List (List ℕ)) → R xs ≡ N xs) → N [] ≡ ends (waiting e) [] → due_after R [] ≡ Ok Receive
waits_for R N e same waits = rw (same [] ∙ waits) refl

pub says_first : (R N : Run) (b : List ℕ) → ((xs : List (List ℕ)) → R xs ≡ says b (N xs)) → due_after R [] ≡ Ok (Send b)
says_first R N b comes = rw (comes []) refl

pub is_done : (R : Run) → ((xs : List (List ℕ)) → R xs ≡ ends done xs) → due_after R [] ≡ Ok End
is_done R comes = rw (comes []) refl

pub is_stopped : (R : Run) (halt : Halt) → ((xs : List (List ℕ)) → R xs ≡ ends (stopped halt.event halt.at) xs) → due_after R [] ≡ Err halt
is_stopped R halt comes = rw (comes []) refl

pub hears_line : (R N M : Run) (e : ℕ) (b : List ℕ) → ((xs : List (List ℕ)) → R xs ≡ N xs) → N [] ≡ ends (waiting e) []
    → ((xs : List (List ℕ)) → N (b ∷ xs) ≡ M xs) → Reaches R M (In b ∷ [])
hears_line R N M e b same waits comes = record {
  due = more_are_due R [] (In b) (none_are_due R) (rw (waits_for R N e same waits) tt);
  on = λ xs. same (b ∷ xs) ∙ comes xs;
}

pub says_line : (R N : Run) (b : List ℕ) → ((xs : List (List ℕ)) → R xs ≡ says b (N xs)) → Reaches R N (Out b ∷ [])
says_line R N b comes = record {
  due = more_are_due R [] (Out b) (none_are_due R) (rw (says_first R N b comes) refl);
  on = comes;
}
