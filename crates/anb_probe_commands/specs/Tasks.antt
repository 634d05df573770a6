-- For proofs alone: a task that was read from files.
use Rattle.std.specs.Prelude.{◌≡◌, ◌⊎◌, ◌<◌, ◌≤◌, ◌+◌, ℕ, List, length, All, Option, Some, slice_get}
use Rattle.anb_base.specs.declared.TheConstants.{ARRIVAL}
use Rattle.anb_code.specs.CodeValue.{CodeValue}
use Rattle.anb_compile.specs.Fitting.{FitsRole}
use Rattle.anb_command.specs.Roles.{Part}
use Rattle.anb_partner.specs.declared.planning.PartnerNo.TheVariants as no
use Rattle.anb_protocol.specs.Protocols.{ActionValue, ProtocolValue}
use Rattle.anb_values.specs.declared.fitted.Fitted.{Fitted}
use Rattle.anb_values.specs.declared.refusal.ValuesNo.TheVariants.{Long}
use Rattle.anb_status.specs.declared.status.Status.{Status}
use Rattle.anb_status.specs.declared.status.Status.TheVariants.{BadValues, CannotSend, NoMemory}
use Rattle.anb_probe_commands.specs.ProbeCommand.{Agenda, IsHonestNo}
use Rattle.anb_probe_commands.specs.Probings.{Probing, begins}
use Rattle.anb_probe_commands.specs.declared.cases.Prepared.{Prepared}
use Rattle.anb_probe_commands.specs.declared.partners.Lack.{Lack}
use Rattle.anb_probe_commands.specs.declared.partners.Lack.TheVariants.{Blocked, Large}

abbrev pub part_by : ProtocolValue → ℕ → Part
part_by p role = record { protocol = p; role = role }

abbrev pub probing_by : ProtocolValue → ℕ → (values : List (List ℕ)) → (seed : List ℕ) → Probing
probing_by p role values seed = record { protocol = p; role = role; values = values; seed = seed }

-- the values and the seed that the file gives
abbrev pub fitted_by : (values : List (List ℕ)) → (seed : Option (List ℕ)) → Fitted
fitted_by values seed = record { values = values; seed = seed }

-- what all roles begin with is short
abbrev pub AllShort : ProtocolValue → List (List ℕ) → Type 0
AllShort p values = (role : ℕ) → role < length p.roles → All (λ value. length value ≤ ARRIVAL) (begins p values role)

-- it can be probed
pub record CanProbe (q : Probing) (code : CodeValue) : Type 0 where
  pub role : q.role < length q.protocol.roles
  pub fits : FitsRole q.protocol q.role code
  pub short : AllShort q.protocol q.values

-- the status of a value with this label that is too long, or want of memory
abbrev pub IsLongOf : Option (List ℕ) → Status → Type 0
IsLongOf label status = (status ≡ NoMemory) ⊎ ((l : List ℕ) × (label ≡ Some l) × (status ≡ BadValues (Long l)))

-- the status where the honest partner can't be made
abbrev pub IsHonestLack : ProtocolValue → (role : ℕ) → Lack → Status → Type 0
IsHonestLack p role (Blocked line) = IsHonestNo p role (no.CannotSend line)
IsHonestLack p role Large = IsHonestNo p role no.Large

-- the status of the action behind so many, which its sender can't compose
abbrev pub IsUnsentBehind : ProtocolValue → (before : ℕ) → ActionValue → Status → Type 0
IsUnsentBehind p before action status =
    (sender : List ℕ) × (slice_get p.roles action.from ≡ Some sender) × (status ≡ CannotSend (before + 1) sender)

abbrev pub agenda_by : Prepared → Agenda
agenda_by x = record { scenes = x.scenes.items; cases = x.cases.items; untried = x.untried.items; count = x.count; is_shown = x.is_shown }
