-- What a replay of recorded lines comes to.
use Rattle.std.proofs.Common.{◌≡◌, ◌+◌, ℕ, true, List, [], ◌∷◌, ◌++◌, length, Ok, Err, refl, sym, ap, ◌∙◌, subst, append_assoc}
use Rattle.std.proofs.lemmas.List.{append-nil}
use Rattle.anb_plays.specs.Plays.{Played, Run, ends, waiting}
use Rattle.anb_machine.specs.Machines.{MachineValue, gives}
use Rattle.anb_session.specs.Sessions.{waits_at}
use Rattle.anb_session.specs.Standing.{StandsAt}
use Rattle.anb_session.specs.Turns.{AwaitsNow}
use Rattle.anb_session.specs.declared.PlayEnd.{PlayEnd}
use Rattle.anb_session.specs.declared.PlayEnd.TheVariants as ended
use Rattle.anb_transcript.specs.Replays.{Replays, arrivals_of, due_after}
use Rattle.anb_transcript.specs.declared.following.Due.TheVariants.{End, Receive}
use Rattle.anb_transcript.specs.declared.following.ReplayEnd.TheVariants.{Short}
use Rattle.anb_transcript.specs.declared.transcript.TranscriptLine.{TranscriptLine}
use Rattle.anb_transcript.proofs.Reached.{Reached, due_there, reached_further, reached_here}
use Rattle.anb_recording.specs.Following.{CoversAll}
use Rattle.anb_recording.specs.Recordings.{ReplaysAs}

pub reached_behind : (R S T : Run) (before lines : List TranscriptLine) → Reached R S before → CoversAll S T lines → Reached R T (before ++ lines)
reached_behind R S T before [] reached same =
    let one : S ≡ T = λ i xs. same xs i in
    subst (Reached R T) (sym (append-nil before)) (subst (λ (Q : Run). Reached R Q before) one reached)
reached_behind R S T before (line ∷ lines) reached covers =
    subst (Reached R T) (append_assoc before (line ∷ []) lines)
    (reached_behind R covers.0 T (before ++ line ∷ []) lines (reached_further R S covers.0 before reached line covers.1) covers.2)

pub reached_all : (R T : Run) (lines : List TranscriptLine) → CoversAll R T lines → Reached R T lines
reached_all R T lines covers = reached_behind R R T [] lines (reached_here R) covers

module _ (R : Run) (machine : MachineValue) (lines : List TranscriptLine) (reached : Reached R (gives machine) lines) where
  waits_behind : AwaitsNow machine → Replays R lines (Short (length lines + 1))
  waits_behind awaits = (Receive, reached.due, due_there R (gives machine) lines reached ∙ receive_is_due awaits, λ e. cc, refl) where
    receive_is_due : (a : AwaitsNow machine) → due_after (gives machine) [] ≡ Ok Receive
    receive_is_due a = rw a.next refl

  waits_there : (e : ℕ) → gives machine [] ≡ ends (waiting e) [] → (R (arrivals_of lines)).end ≡ waiting e
  waits_there e next = ap (λ xs. (R xs).end) (sym (append-nil (arrivals_of lines))) ∙ reached.ends [] ∙ ap (λ (p : Played (List ℕ)). p.end) next

  pub replays_as : (end : PlayEnd) → StandsAt machine end → (waits_at end ≡ true → AwaitsNow machine) → ReplaysAs R lines end
  replays_as ended.Done stands awaits =
      let over : due_after (gives machine) [] ≡ Ok End = rw stands refl in (reached.due, due_there R (gives machine) lines reached ∙ over)
  replays_as (ended.Stopped halt) stands awaits =
      let over : due_after (gives machine) [] ≡ Err halt = rw stands refl in
      (lines, [], sym (append-nil lines), refl, reached.due, due_there R (gives machine) lines reached ∙ over)
  replays_as (ended.Waiting e) stands awaits = (waits_behind (awaits refl), waits_there e stands)
  replays_as (ended.Truncated have need) stands awaits = waits_behind (awaits refl)
  replays_as (ended.TooLarge len) stands awaits = waits_behind (awaits refl)
  replays_as ended.ReadFault stands awaits = waits_behind (awaits refl)
  replays_as ended.WriteFault stands awaits = reached.due
  replays_as ended.NoMemory stands awaits = tt
