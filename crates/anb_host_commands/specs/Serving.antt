-- What comes of serving a host over a wire.
use Rattle.std.specs.Prelude.{◌≡◌, ◌⊎◌, ℕ, List, []}
use Rattle.anb_plays.specs.Plays.{Run}
use Rattle.anb_base.specs.Wires.{WireState}
use Rattle.anb_base.specs.declared.place.Place.{Place}
use Rattle.anb_code.specs.CodeValue.{CodeValue}
use Rattle.anb_host.specs.declared.event.HostEvent.{HostEvent}
use Rattle.anb_host.specs.declared.serving.HostEnd.{HostEnd}
use Rattle.anb_host.specs.declared.serving.HostEnd.TheVariants.{Ended, Truncated, BadKind, ReadFault, WriteFault, Spent, NoMemory}
use Rattle.anb_host.specs.HostFrames.{FramesLeft, Tail}
use Rattle.anb_host.specs.Serving.{Serves}
use Rattle.anb_machine.specs.ByteRuns.{run_bytes}
use Rattle.anb_status.specs.declared.status.Status.{Status}
use Rattle.anb_status.specs.declared.status.Status.TheVariants as ended
use Rattle.anb_host_commands.specs.declared.hosting.TheConstants.{FRAMES}

-- the status of serving that ended so
abbrev pub status_of : HostEnd → Status
status_of Ended = ended.Done
status_of (Truncated have need) = ended.Truncated have need
status_of (BadKind kind) = ended.BadKind kind
status_of ReadFault = ended.ReadFault
status_of WriteFault = ended.WriteFault
status_of (Spent frames) = ended.Spent frames
status_of NoMemory = ended.NoMemory

-- a code's run in each session
abbrev pub runs_by : CodeValue → (initial : List (List ℕ)) → (seed : List ℕ) → ℕ → Run
runs_by code initial seed session arrivals = run_bytes code initial seed session arrivals

-- serving came to an end with this status
abbrev pub EndsSo : (ℕ → Run) → (past events : List HostEvent) → Tail → (old new : WireState) → Status → Type 0
EndsSo plays past events tail old new status =
    (end : HostEnd) × (status ≡ status_of end) × Serves plays past events tail FRAMES old new end

-- nothing was read or written, where the place wasn't reached, or for want of memory
pub record IsIdle (old new : WireState) (status : Status) : Type 0 where
  pub because : ((place : Place) × (status ≡ ended.Unreached place)) ⊎ (status ≡ ended.NoMemory)
  pub left : new.left ≡ old.left
  pub taken_at : new.taken_at ≡ old.taken_at
  pub written : new.written ≡ old.written

-- new sessions were served over each input that the wire may have, or nothing was done
abbrev pub ServesOn : (ℕ → Run) → (old new : WireState) → Status → Type 0
ServesOn plays old new status =
    IsIdle old new status
    ⊎ ((events : List HostEvent) (tail : Tail) → FramesLeft old.left events tail → EndsSo plays [] events tail old new status)
