-- What is known before the wire is touched, and what comes of a code's run over it.
use Rattle.std.specs.Prelude.{◌≡◌, ℕ, ◌↔◌, List, take, Option}
use Rattle.std.specs.List.{AllByRecursion}
use Rattle.anb_base.specs.Bytes.{IsBytes}
use Rattle.anb_base.specs.Moves.{Put, PutPrefix, Took}
use Rattle.anb_base.specs.Wires.{WireState}
use Rattle.anb_base.specs.declared.TheConstants.{ARRIVAL}
use Rattle.anb_frame.specs.Frames.{frames}
use Rattle.anb_frame.specs.Cuts.{Tail, Cut, CutLeft}
use Rattle.anb_plays.specs.Plays as plays
use Rattle.anb_plays.specs.Plays.{Played}
use Rattle.anb_session.specs.Sessions.{Reads}
use Rattle.anb_session.specs.declared.PlayEnd.{PlayEnd}
use Rattle.anb_session.specs.declared.PlayEnd.TheVariants.{Done, Stopped, Waiting, Truncated, TooLarge}
use Rattle.anb_session.specs.declared.PlayEnd.TheVariants as faults
use Rattle.anb_status.specs.declared.status.Status.{Status}
use Rattle.anb_status.specs.declared.status.Status.TheVariants as ended
use Rattle.anb_status.specs.declared.status.Status.TheVariants.{Unreached, ReadFault, WriteFault, NoMemory}
use Rattle.anb_command.specs.Outcomes.{status_at}
use Rattle.anb_command.specs.Steps.{Answer, given}

-- over arrivals of bytes this function gives what comes of it, and nothing else comes
abbrev pub IsRunBy : {A : Type 0} → (A → List (List ℕ) → Played (List ℕ) → Type 0) → A → (List (List ℕ) → Played (List ℕ)) → Type 0
IsRunBy IsRunOf asked R = (arrivals : List (List ℕ)) → AllByRecursion IsBytes arrivals → (p : Played (List ℕ)) → IsRunOf asked arrivals p ↔ (p ≡ R arrivals)

-- there is something to run, and this function runs it
pub record IsReady {A : Type 0} (IsRunOf : A → List (List ℕ) → Played (List ℕ) → Type 0) (Prepares : Answer A → Type 0) (R : List (List ℕ) → Played (List ℕ)) : Type 0 where
  pub asked : A
  pub asks : Prepares (given asked)
  pub comes : IsRunBy IsRunOf asked R

-- what comes of a run over an input with this cut
module _ (R : List (List ℕ) → Played (List ℕ)) where
  abbrev pub RunsTo : List (List ℕ) → Tail → (left left_now written written_now : Option (List ℕ)) → Status → Type 0
  RunsTo arrivals tail left left_now written written_now (Unreached at) = (left_now ≡ left) × (written_now ≡ written)
  RunsTo arrivals tail left left_now written written_now WriteFault = PutPrefix written written_now (frames (R arrivals).sent)
  RunsTo arrivals tail left left_now written written_now ReadFault =
      (taken : List ℕ) × (whole : List (List ℕ)) × (part : Tail) × (e : ℕ) × Took left left_now taken × Cut ARRIVAL taken whole part
      × ((R whole).end ≡ plays.waiting e) × Put written written_now (frames (R whole).sent)
  RunsTo arrivals tail left left_now written written_now NoMemory = (k : ℕ) × Put written written_now (frames (take k (R arrivals).sent))
  RunsTo arrivals tail left left_now written written_now result =
      (result ≡ status_at (R arrivals).end tail) × Put written written_now (frames (R arrivals).sent) × Reads (R arrivals).end arrivals (R arrivals).left tail left left_now

  -- and over each input that the wire may have
  abbrev pub RunsOn : (old new : WireState) → Status → Type 0
  RunsOn old new result =
      (arrivals : List (List ℕ)) (tail : Tail) → CutLeft ARRIVAL old.left arrivals tail
      → RunsTo arrivals tail old.left new.left old.written new.written result

-- the status of a run over a wire
abbrev pub status_of : PlayEnd → Status
status_of Done = ended.Done
status_of (Stopped halt) = ended.Stopped halt
status_of (Waiting event) = ended.Waiting event
status_of (Truncated have need) = ended.Truncated have need
status_of (TooLarge len) = ended.TooLarge len
status_of faults.ReadFault = ended.ReadFault
status_of faults.WriteFault = ended.WriteFault
status_of faults.NoMemory = ended.NoMemory
