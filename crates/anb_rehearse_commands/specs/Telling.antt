-- For proofs alone: what a rehearsal needs, and what is answered where it ended so.
use Rattle.std.specs.Prelude.{◌≡◌, ◌⊎◌, ℕ, ◌<◌, ◌≤◌, List, [], length, Option, All}
use Rattle.std.specs.List.{AllByRecursion}
use Rattle.anb_base.specs.Bytes.{IsBytes}
use Rattle.anb_base.specs.Moves.{Put, PutPrefix}
use Rattle.anb_base.specs.declared.TheConstants.{ARRIVAL}
use Rattle.anb_code.specs.CodeValue.{CodeValue}
use Rattle.anb_compile.specs.Fitting.{FitRoles}
use Rattle.anb_honest.specs.declared.TheConstants.{TURNS}
use Rattle.anb_honest.specs.declared.report.RehearseEnd.{RehearseEnd}
use Rattle.anb_honest.specs.declared.report.RehearseEnd.TheVariants.{AllDone, Part, Stopped, LongMessage}
use Rattle.anb_honest.specs.Honest.{AreHonest, honest_end}
use Rattle.anb_honest.specs.Laws.{CompleteIsTested}
use Rattle.anb_protocol.specs.Plays.{IsSendable}
use Rattle.anb_protocol.specs.Protocols.{ProtocolValue}
use Rattle.anb_protocol.specs.Texts.{known_names}
use Rattle.anb_status.specs.declared.status.Status.{Status}
use Rattle.anb_status.specs.declared.status.Status.TheVariants.{FileFault, Unreached, ReadFault, WriteFault, ChildFault, ChildSilent, Unwritten, NoMemory}
use Rattle.anb_rehearse_commands.specs.Rehearsals.{Rehearsal, Setting}
use Rattle.anb_rehearse_commands.specs.RehearseCommand.{RolesPlay, Tells, cast_of}

-- a protocol with codes of all roles, that can be rehearsed with these values over these turns
pub record CanRehearse (p : ProtocolValue) (codes : List CodeValue) (values : List (List ℕ)) (turns : List ℕ) : Type 0 where
  pub fit : FitRoles p codes
  pub sendable : IsSendable p
  pub count : length values ≡ length (known_names p)
  pub bytes : AllByRecursion IsBytes values
  pub short : All (λ value. length value ≤ ARRIVAL) values
  pub roles : All (λ role. role < length p.roles) turns
  pub few : length turns ≤ TURNS

abbrev pub setting_by : ProtocolValue → (values : List (List ℕ)) → (seed : List ℕ) → Setting
setting_by p values seed = record { protocol = p; values = values; seed = seed }

abbrev pub asked_by : ProtocolValue → (values : List (List ℕ)) → (seed turns : List ℕ) → Rehearsal
asked_by p values seed turns = record { setting = setting_by p values seed; turns = turns }

-- it isn't the end of a role that stopped
abbrev pub GoesOn : RehearseEnd → Type 0
GoesOn (AllDone report) = Unit {0}
GoesOn (Part report) = Unit {0}
GoesOn (Stopped role halt) = ⊥
GoesOn (LongMessage action len) = Unit {0}

-- what is answered, and what is written by then
abbrev pub IsTold : RehearseEnd → Status → (written written_now : Option (List ℕ)) → Type 0
IsTold end (FileFault name) written written_now = ⊥
IsTold end ReadFault written written_now = ⊥
IsTold end (ChildFault role) written written_now = ⊥
IsTold end (ChildSilent role seconds) written written_now = ⊥
IsTold end (Unwritten file) written written_now = ⊥
IsTold end (Unreached place) written written_now = written_now ≡ written
IsTold end WriteFault written written_now =
    (status : Status) × (out : List ℕ) × Tells end status out × PutPrefix written written_now out
IsTold end NoMemory written written_now =
    (written_now ≡ written)
    ⊎ ((status : Status) × (out : List ℕ) × Tells end status out × PutPrefix written written_now out)
IsTold end status written written_now =
    (out : List ℕ) × Tells end status out × Put written written_now out

-- the same of the end among honest roles, with what else holds there
pub record IsRehearsedTo (r : Rehearsal) (status : Status) (written written_now : Option (List ℕ)) : Type 0 where
  pub some : (atoms : ℕ → List ℕ) × AreHonest (cast_of r) atoms
  pub told : (atoms : ℕ → List ℕ) → AreHonest (cast_of r) atoms
      → IsTold (honest_end (cast_of r) atoms r.turns) status written written_now
  pub plays : (atoms : ℕ → List ℕ) → AreHonest (cast_of r) atoms → RolesPlay r atoms
  pub tested : CompleteIsTested
