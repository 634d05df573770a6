-- What is due at a turn, and what is due behind a line.
use Rattle.std.proofs.Common.{◌≡◌, ◌≢◌, ◌⊎◌, inl, inr, ◌∙◌, ℕ, List, [], ◌∷◌, Result, Ok, refl, sym, subst}
use Rattle.std.specs.Result.{IfErr}
use Rattle.std.proofs.lemmas.Result.{IfErr-weaker}
use Rattle.anb_plays.specs.Plays.{Played, says, ends, waiting}
use Rattle.anb_machine.specs.Machines.{MachineValue, gives, Turned}
use Rattle.anb_machine.specs.declared.turn.Turn.{Turn}
use Rattle.anb_machine.specs.declared.turn.Turn.TheVariants.{Message, Wants}
use Rattle.anb_transcript.specs.declared.transcript.TranscriptLine.{TranscriptLine}
use Rattle.anb_transcript.specs.declared.transcript.TranscriptLine.TheVariants.{In}
use Rattle.anb_transcript.specs.declared.following.Due.{Due}
use Rattle.anb_transcript.specs.declared.following.Due.TheVariants.{Send, Receive, End}
use Rattle.anb_transcript.specs.declared.following.ReplayEnd.{ReplayEnd}
use Rattle.anb_transcript.specs.Replays.{due_after}
use Rattle.anb_transcript.specs.Turns.{Covers, EndsAt}

receive_is_due : (R : List (List ℕ) → Played (List ℕ)) (e : ℕ) → R [] ≡ ends (waiting e) [] → due_after R [] ≡ Ok Receive
receive_is_due R e waits = rw waits refl

send_is_due : (R R' : List (List ℕ) → Played (List ℕ)) (b : List ℕ) → ((xs : List (List ℕ)) → R xs ≡ says b (R' xs)) → due_after R [] ≡ Ok (Send b)
send_is_due R R' b comes = rw (comes []) refl

-- at a message and before an arrival something else than the end is due
pub something_due : (old new : MachineValue) (turn : Turn) → Turned old new turn → ((b : List ℕ) × (turn ≡ Message b)) ⊎ ((e : ℕ) × (turn ≡ Wants e))
    → (due : Due) × (due_after (gives old) [] ≡ Ok due) × (due ≢ End)
something_due old new turn turned is = elim is [
  | inl m ↦ let t = rw m.1 at turned in (Send m.0, send_is_due (gives old) (gives new) m.0 t.0, λ e. cc)
  | inr w ↦ let t = rw w.1 at turned in (Receive, receive_is_due (gives old) w.0 (t.0 [] ∙ t.1), λ e. cc)
]

pub hears : (R R' : List (List ℕ) → Played (List ℕ)) (line : TranscriptLine) (arrival : List ℕ) → line ≡ In arrival → due_after R [] ≡ Ok Receive → ((xs : List (List ℕ)) → R (arrival ∷ xs) ≡ R' xs)
    → Covers R R' line
hears R R' line arrival is due comes = rw is (record { due = rw due tt; on = comes })

-- runs that give the same everywhere end in the same way
pub ends_same : (R R' : List (List ℕ) → Played (List ℕ)) → ((xs : List (List ℕ)) → R xs ≡ R' xs) → (line : TranscriptLine) (number heard : ℕ) (r : Result (Unit {0}) ReplayEnd)
    → IfErr r (λ end. (n : ℕ) → EndsAt R' line number n end) → IfErr r (EndsAt R line number heard)
ends_same R R' same line number heard r h =
    let one : R' ≡ R = λ i xs. sym (same xs) i in
    subst (λ (S : List (List ℕ) → Played (List ℕ)). IfErr r (EndsAt S line number heard)) one (IfErr-weaker r _ _ (λ end k. k heard) h)
