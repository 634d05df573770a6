-- What `host` does: many sessions of a role, each with a play of its own, on one wire.
use Rattle.std.specs.Prelude.{◌≡◌, ◌⊎◌, ℕ, ◌+◌, ◌<◌, ◌≤◌, nat_lt, true, false, if◌then◌else◌, List, [], ◌∷◌, ◌++◌, length, take, drop, replicate, Option, Some, IfSome}
use Rattle.std.specs.List.{AllByRecursion}
use Rattle.anb_plays.specs.Plays.{Run}
use Rattle.anb_base.specs.Bytes.{IsBytes}
use Rattle.anb_base.specs.Moves.{Put, Took}
use Rattle.anb_base.specs.Wires.{WireState}
use Rattle.anb_host.specs.declared.event.HostEvent.{HostEvent}
use Rattle.anb_host.specs.Alone.{IsToldAlone}
use Rattle.anb_host.specs.HostFrames.{Tail, End, Part, Bad, HostFrames, out}
use Rattle.anb_host.specs.Own.{told}
use Rattle.anb_host.specs.Serving.{IsBegun, IsBehind, size_of, stamps}
use Rattle.anb_protocol.specs.Plays.{IsPlay}
use Rattle.anb_status.specs.declared.status.Status.{Status}
use Rattle.anb_status.specs.declared.status.Status.TheVariants.{Done, FileFault, Unreached, Truncated, ReadFault, WriteFault, BadKind, Spent, NoMemory}
use Rattle.anb_command.specs.Fetches.{Files, IfTold}
use Rattle.anb_command.specs.Outcomes.{IsRefused}
use Rattle.anb_command.specs.Refusing.{IsRefusing}
use Rattle.anb_status.specs.Statuses.{is_fault}
use Rattle.anb_command.specs.Steps.{Answer, given}
use Rattle.anb_role_commands.specs.Jobs.{IsRead, Job, JobIs}
use Rattle.anb_host_commands.specs.declared.hosting.TheConstants.{FRAMES}

-- the play of each session of a job, which draws from a stream of its own
abbrev pub ArePlays : Job → (ℕ → Run) → Type 0
ArePlays job plays =
    (session : ℕ) (arrivals : List (List ℕ)) → AllByRecursion IsBytes arrivals
    → IsPlay job.protocol job.role job.initial job.seed session arrivals (plays session arrivals)

-- ---- an input of these events and then this tail

-- all events are handled, but no more than these
abbrev pub handled : List HostEvent → List HostEvent
handled events = take FRAMES events

abbrev pub status_before : Tail → Status
status_before End = Done
status_before (Part have need) = Truncated have need
status_before (Bad kind) = BadKind kind

abbrev pub status_of_input : List HostEvent → Tail → Status
status_of_input events tail =
    if nat_lt (length events) FRAMES then status_before tail else Spent FRAMES

-- how many bytes are read: the frames of the events that are handled, and then a part of a frame,
-- or the one byte that is no kind of frame
abbrev pub sizes : List HostEvent → ℕ
sizes [] = 0
sizes (e ∷ events) = size_of e + sizes events

abbrev pub read_of_tail : Tail → ℕ
read_of_tail End = 0
read_of_tail (Part have need) = have
read_of_tail (Bad kind) = 1

abbrev pub read_of_input : List HostEvent → Tail → ℕ
read_of_input events tail =
    sizes (handled events) + (if nat_lt (length events) FRAMES then read_of_tail tail else 0)

-- ---- the outcome

-- serving to its end: each event's notices are written, and this is left
pub record IsServed (job : Job) (left : List ℕ) (events : List HostEvent) (tail : Tail)
    (status : Status) (wrote rest : List ℕ) : Type 0 where
  pub plays : ℕ → Run
  pub are : ArePlays job plays
  pub status_is : status ≡ status_of_input events tail
  pub writes : wrote ≡ out (told plays [] (handled events))
  pub leaves : rest ≡ drop (read_of_input events tail) left

-- of an input the frames of some events were taken, and z behind them
pub record Takes (job : Job) (left left_now : Option (List ℕ)) (events : List HostEvent) (z : List ℕ)
    : Type 0 where
  pub plays : ℕ → Run
  pub are : ArePlays job plays
  pub frames : List ℕ
  pub are_frames : HostFrames frames events End
  pub took : Took left left_now (frames ++ z)

-- what is due where these were taken
abbrev pub due : {job : Job} → {left left_now : Option (List ℕ)} → {events : List HostEvent} → {z : List ℕ}
    → Takes job left left_now events z → List ℕ
due {job} {left} {left_now} {events} {z} takes = out (told takes.plays [] events)

-- Each byte that was taken, of a frame or of what stands behind the frames, was taken when exactly the
-- notices of the events before were written.
pub record TakesInTime (job : Job) (old new : WireState) : Type 0 where
  pub some : List HostEvent
  pub z : List ℕ
  pub behind : IsBehind z
  pub takes : Takes job old.left new.left some z
  pub in_time : IfSome old.written (λ written. Put old.taken_at new.taken_at
      (stamps takes.plays [] (length written) some
      ++ replicate (length z) (length written + length (due takes))))

-- or nothing was taken
abbrev pub IsInTime : Job → (old new : WireState) → Type 0
IsInTime job old new =
    ((new.left ≡ old.left) × (new.taken_at ≡ old.taken_at)) ⊎ TakesInTime job old new

module _ (Asks : Answer Job → Type 0) (left : List ℕ) (events : List HostEvent) (tail : Tail) where
  -- the status, what is written and what is left, where no fault comes
  abbrev pub Outcome : Status → (wrote rest : List ℕ) → Type 0
  Outcome status wrote rest =
      IsRefused Asks left status wrote rest
      ⊎ ((job : Job) × Asks (given job) × IsServed job left events tail status wrote rest)

  -- what is written where a fault comes, or memory is wanting, and what is left then
  abbrev pub CutShort : Status → (wrote : List ℕ) → (left_now : Option (List ℕ)) → Type 0
  -- a prefix of the notices of the events that were read
  CutShort WriteFault wrote left_now =
      (job : Job) × Asks (given job) × ((some : List HostEvent) × (t : Takes job (Some left) left_now some [])
      × (length some ≤ FRAMES) × ((n : ℕ) × (wrote ≡ take n (due t))))
  -- the notices of the events that were read whole, fewer than may be handled
  CutShort ReadFault wrote left_now =
      (job : Job) × Asks (given job) × ((some : List HostEvent) × (z : List ℕ) × IsBegun z
      × (t : Takes job (Some left) left_now some z) × (length some < FRAMES) × (wrote ≡ due t))
  CutShort NoMemory wrote left_now =
      ((wrote ≡ []) × (left_now ≡ Some left))
      ⊎ ((job : Job) × Asks (given job) × ((some : List HostEvent) × (z : List ℕ) × IsBegun z
      × (t : Takes job (Some left) left_now some z) × (length some ≤ FRAMES) × ((n : ℕ) × (wrote ≡ take n (due t)))))
  -- nothing, where there is something to serve
  CutShort (Unreached place) wrote left_now =
      ((job : Job) × Asks (given job)) × (wrote ≡ []) × (left_now ≡ Some left)
  CutShort (FileFault name) wrote left_now = (wrote ≡ []) × (left_now ≡ Some left)
  CutShort status wrote left_now = ⊥

  -- the outcome, in both directions. What is written may be untold
  pub record IsServing (old new : WireState) (result : Status) : Type 0 where
    -- the answer is an outcome
    pub is : is_fault result ≡ false → (wrote rest : List ℕ) × Outcome result wrote rest
        × Put old.written new.written wrote × (new.left ≡ Some rest)
    -- and each outcome is the answer
    pub only : is_fault result ≡ false → (status : Status) (wrote rest : List ℕ)
        → Outcome status wrote rest
        → (result ≡ status) × Put old.written new.written wrote × (new.left ≡ Some rest)
    -- each session is told what its play, alone, sends over the arrivals that it accepted, and that play's end
    pub alone : is_fault result ≡ false → (job : Job) → Asks (given job) → (plays : ℕ → Run)
        → ArePlays job plays → (session : ℕ) → session < 1024 → IsToldAlone plays session (handled events)
    pub cut_short : is_fault result ≡ true → (wrote : List ℕ) × CutShort result wrote new.left
        × Put old.written new.written wrote
    -- whatever the status
    pub in_time : (job : Job) → Asks (given job) → IsInTime job old new

module _ (narration name values : List ℕ) (told_files : Option Files) (host_seed : Option (List ℕ))
    (old new : WireState) (status : Status) where
  -- What it refuses is exact wherever the files are told. Where the input is told too, the outcome is
  -- that over each list of events and tail that it is.
  pub record DoesHost : Type 0 where
    pub refuses : IfTold told_files (λ files.
        IsRefusing (JobIs files narration name values host_seed)
        (IsRead files narration name values) status)
    pub outcome : IfTold told_files (λ files. IfTold old.left (λ left.
        (events : List HostEvent) (tail : Tail) → IsBytes left → HostFrames left events tail
        → IsServing (JobIs files narration name values host_seed) left events tail old new status))

  -- where nothing failed, nothing is refused, and the input is whole frames, fewer than may be handled,
  -- it is done and all is read; else memory was wanting
  abbrev pub CompletesHost : Type 0
  CompletesHost =
      IfTold told_files (λ files. IfTold old.left (λ left. (job : Job) (events : List HostEvent)
      → IsBytes left → JobIs files narration name values host_seed (given job)
      → HostFrames left events End → length events < FRAMES
      → ((status ≡ Done) × (new.left ≡ Some [])) ⊎ (status ≡ NoMemory)))
