-- Replays over a run and over the play that it is, which tells no instruction of a stop.
use Rattle.std.proofs.Common.{◌≡◌, ◌+◌, ℕ, List, [], ◌∷◌, ◌++◌, length, drop, Result, Ok, Err, refl, ap, sym, ◌∙◌, subst}
use Rattle.anb_plays.specs.Plays.{End, Run, done, stopped, waiting}
use Rattle.anb_plays.specs.Runs.{no_place, without_place}
use Rattle.anb_machine.specs.declared.turn.Halt.{Halt}
use Rattle.anb_status.specs.declared.status.Status.{Status}
use Rattle.anb_transcript.specs.Replays.{AreDue, IsDue, Replays, arrivals_of, due_after, due_of, messages_of}
use Rattle.anb_transcript.specs.declared.following.Due.{Due}
use Rattle.anb_transcript.specs.declared.following.ReplayEnd.TheVariants as replayed
use Rattle.anb_transcript.specs.declared.transcript.TranscriptLine.{TranscriptLine}

-- as a play tells it
abbrev placeless : Result Due Halt → Result Due Halt
placeless (Ok due) = Ok due
placeless (Err halt) = Err (record { event = halt.event; at = 0 })

due_placeless : (messages : List (List ℕ)) (end : End) → due_of messages (no_place end) ≡ placeless (due_of messages end)
due_placeless (message ∷ messages) end = refl
due_placeless [] (waiting e) = refl
due_placeless [] done = refl
due_placeless [] (stopped e at) = refl

is_due : (due : Result Due Halt) (line : TranscriptLine) → IsDue due line → IsDue (placeless due) line
is_due (Ok due) line is = is
is_due (Err halt) line is = absurd is

module _ (R : Run) where
  abbrev play : Run
  play arrivals = without_place (R arrivals)

  pub play_due : (lines : List TranscriptLine) → due_after play lines ≡ placeless (due_after R lines)
  play_due lines = due_placeless (drop (length (messages_of lines)) (R (arrivals_of lines)).sent) (R (arrivals_of lines)).end

  pub are_due : (lines : List TranscriptLine) → AreDue R lines → AreDue play lines
  are_due lines due before after line is = subst (λ d. IsDue d line) (sym (play_due before)) (is_due (due_after R before) line (due before after line is))

  pub follows : (lines : List TranscriptLine) → Replays R lines replayed.Follows → Replays play lines replayed.Follows
  follows lines is = (are_due lines is.0, play_due lines ∙ ap placeless is.1)

  pub stops : (lines : List TranscriptLine) (halt : Halt) (n : ℕ) → Replays R lines (replayed.Stopped halt n)
      → Replays play lines (replayed.Stopped (record { event = halt.event; at = 0 }) n)
  stops lines halt n is = (is.0, is.1, is.2, is.3, are_due is.0 is.4, play_due is.0 ∙ ap placeless is.5)

  pub falls_short : (lines : List TranscriptLine) (event : ℕ) → Replays R lines (replayed.Short event) → Replays play lines (replayed.Short event)
  falls_short lines event is = (is.0, are_due lines is.1, play_due lines ∙ ap placeless is.2, is.3, is.4)
