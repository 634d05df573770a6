-- What `rehearse` does: all roles of a narration play together over a schedule, and a report is written.
use Rattle.std.specs.Prelude.{◌≡◌, ◌⊎◌, ℕ, ◌<◌, true, false, List, [], length, take, Option}
use Rattle.anb_base.specs.Moves.{Put}
use Rattle.anb_base.specs.Wires.{WireState}
use Rattle.anb_outcomes.specs.declared.rehearsals.Report.{Report}
use Rattle.anb_honest.specs.declared.report.RehearseEnd.{RehearseEnd}
use Rattle.anb_honest.specs.declared.report.RehearseEnd.TheVariants as ended
use Rattle.anb_honest.specs.Honest.{AreHonest, honest_end, honest_known, honest_taken, play_so_far}
use Rattle.anb_honest.specs.Joint.{Cast, cast}
use Rattle.anb_protocol.specs.Plays.{IsPlay}
use Rattle.anb_protocol.specs.Schedules.{IsComplete}
use Rattle.anb_status.specs.declared.status.Status.{Status}
use Rattle.anb_status.specs.declared.status.Status.TheVariants.{Done, FileFault, Unreached, WriteFault, LongMessage, NotAll, NoMemory}
use Rattle.anb_command.specs.Fetches.{Files, IfTold}
use Rattle.anb_command.specs.Refusing.{IsRefusing}
use Rattle.anb_status.specs.Statuses.{is_fault}
use Rattle.anb_command.specs.Steps.{Answer, refused, given}
use Rattle.anb_rehearse_commands.specs.Rehearsals.{IsReadToRehearse, Rehearsal, RehearsalIs}
use Rattle.anb_rehearse_commands.specs.Reports.{report_text}

-- all roles of a rehearsal; no code is looked at
abbrev pub cast_of : Rehearsal → Cast
cast_of r = cast r.setting.protocol [] r.setting.values r.setting.seed

-- the status of a rehearsal that ended so, and what is written of it; none ever stops
abbrev pub Tells : RehearseEnd → Status → (out : List ℕ) → Type 0
Tells (ended.AllDone report) status out = (status ≡ Done) × (out ≡ report_text report)
Tells (ended.Part report) status out = (status ≡ NotAll report) × (out ≡ report_text report)
Tells (ended.LongMessage action len) status out = (status ≡ LongMessage action len) × (out ≡ [])
Tells (ended.Stopped role halt) status out = ⊥

-- The end is that of honest roles: where each name has the bytes that are given for it, or its maker's
-- draw, the report has the messages that were sent, with the bytes of their terms.
pub record IsRehearsed (r : Rehearsal) (status : Status) (out : List ℕ) : Type 0 where
  pub atoms : ℕ → List ℕ
  pub honest : AreHonest (cast_of r) atoms
  pub tells : Tells (honest_end (cast_of r) atoms r.turns) status out

-- The play of each role over what it took isn't stopped. It has sent the bytes of all that stands
-- before the first receive that the role did not take.
abbrev pub RolesPlay : Rehearsal → (ℕ → List ℕ) → Type 0
RolesPlay r atoms =
    (role : ℕ) → role < length r.setting.protocol.roles
    → IsPlay r.setting.protocol role (honest_known (cast_of r) atoms role) r.setting.seed role
    (honest_taken (cast_of r) atoms role r.turns) (play_so_far (cast_of r) atoms role r.turns)

module _ (Asks : Answer Rehearsal → Type 0) where
  -- the status and what is written, where no fault comes
  abbrev pub Outcome : Status → (out : List ℕ) → Type 0
  Outcome status out =
      (Asks (refused status) × (out ≡ []))
      ⊎ ((r : Rehearsal) × Asks (given r) × IsRehearsed r status out)

  -- a prefix of a report that is due
  abbrev pub WritesPart : (out : List ℕ) → Type 0
  WritesPart out =
      (r : Rehearsal) × Asks (given r)
      × ((status : Status) × (text : List ℕ) × IsRehearsed r status text × ((n : ℕ) × (out ≡ take n text)))

  -- what is written where a fault comes, or memory is wanting
  abbrev pub CutShort : Status → (out : List ℕ) → Type 0
  CutShort WriteFault out = WritesPart out
  CutShort NoMemory out = (out ≡ []) ⊎ WritesPart out
  CutShort (Unreached place) out = ((r : Rehearsal) × Asks (given r)) × (out ≡ [])
  CutShort (FileFault name) out = out ≡ []
  CutShort status out = ⊥

  pub record IsRehearsing (result : Status) (written written_now : Option (List ℕ)) : Type 0 where
    -- the answer is an outcome
    pub is : is_fault result ≡ false → (out : List ℕ) × Outcome result out × Put written written_now out
    -- and each outcome is the answer
    pub only : is_fault result ≡ false → (status : Status) (out : List ℕ) → Outcome status out
        → (result ≡ status) × Put written written_now out
    pub cut_short : is_fault result ≡ true → (out : List ℕ) × CutShort result out × Put written written_now out
    pub plays : is_fault result ≡ false → (r : Rehearsal) → Asks (given r)
        → (atoms : ℕ → List ℕ) → AreHonest (cast_of r) atoms → RolesPlay r atoms
    -- done says that the schedule is complete, and a role that isn't done that it isn't
    pub all : (r : Rehearsal) → Asks (given r) → result ≡ Done
        → IsComplete r.setting.protocol r.turns
    pub not_all : (r : Rehearsal) → Asks (given r) → (report : Report) → result ≡ NotAll report
        → IsComplete r.setting.protocol r.turns → ⊥

module _ (narration values schedule : List ℕ) (told : Option Files) (host_seed : Option (List ℕ))
    (old new : WireState) (status : Status) where
  -- what it refuses, and what comes of it, are exact wherever the files are told
  pub record DoesRehearse : Type 0 where
    pub refuses : IfTold told (λ files.
        IsRefusing (RehearsalIs files narration values schedule host_seed)
        (IsReadToRehearse files narration values schedule host_seed) status)
    pub outcome : IfTold told (λ files.
        IsRehearsing (RehearsalIs files narration values schedule host_seed) status
        old.written new.written)

  -- where nothing failed and nothing is refused, the status is that of the rehearsal's end, or memory
  -- was wanting
  abbrev pub CompletesRehearse : Type 0
  CompletesRehearse =
      IfTold told (λ files. (r : Rehearsal) → RehearsalIs files narration values schedule host_seed (given r)
      → ((out : List ℕ) × IsRehearsed r status out) ⊎ (status ≡ NoMemory))
