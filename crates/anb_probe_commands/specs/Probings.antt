-- What the words and the files ask to probe.
use Rattle.std.specs.Prelude.{◌≡◌, ◌⊎◌, ◌<◌, ℕ, List, [], length, Option, Some, None}
use Rattle.anb_honest.specs.Joint.{cast, init_of}
use Rattle.anb_protocol.specs.Protocols.{ProtocolValue}
use Rattle.anb_protocol.specs.Texts.{known_names, known_texts}
use Rattle.anb_values.specs.declared.fitted.Fitted.{Fitted}
use Rattle.anb_values.specs.declared.refusal.ValuesNo.TheVariants.{Long}
use Rattle.anb_values_commands.specs.RoleValuesCommand.{first_long}
use Rattle.anb_status.specs.declared.status.Status.TheVariants.{BadValues}
use Rattle.anb_command.specs.Fetches.{Files}
use Rattle.anb_command.specs.Files.{ValuesInFile}
use Rattle.anb_command.specs.Roles.{Part, PartInFile}
use Rattle.anb_command.specs.Steps.{Answer, refused, given, InTurn, AnswersWith}
use Rattle.anb_rehearse_commands.specs.Rehearsals.{SeedFor}

-- a role of a protocol, the values of the names that occur in some role's knowledge, in order, and the
-- seed of the partner's draws
pub record Probing : Type 0 where
  pub protocol : ProtocolValue
  pub role : ℕ
  pub values : List (List ℕ)
  pub seed : List ℕ

abbrev pub probing_of : Part → (values : List (List ℕ)) → (seed : List ℕ) → Probing
probing_of part values seed = record { protocol = part.protocol; role = part.role; values = values; seed = seed }

module _ (p : ProtocolValue) (values : List (List ℕ)) where
  -- what a role begins with
  abbrev pub begins : ℕ → List (List ℕ)
  begins role = init_of (cast p [] values []) role

  -- the label of the first value of it that is longer than an arrival may be
  abbrev pub long_label : ℕ → Option (List ℕ)
  long_label role = first_long (known_texts p role) (begins role)

  -- the first value with which some role begins, in the order of the roles, that is so long
  pub record IsFirstLong (label : List ℕ) : Type 0 where
    pub role : ℕ
    pub within : role < length p.roles
    pub long : long_label role ≡ Some label
    pub before : (other : ℕ) → other < role → long_label other ≡ None

  -- none is; or the first is refused as `values` refuses it
  abbrev pub BeginningsAre : Answer (Unit {0}) → Type 0
  BeginningsAre (refused status) = (label : List ℕ) × (status ≡ BadValues (Long label)) × IsFirstLong label
  BeginningsAre (given _) = (role : ℕ) → role < length p.roles → long_label role ≡ None

-- with the values that a file gives
abbrev pub Settles : Part → Fitted → (host_seed : Option (List ℕ)) → Answer Probing → Type 0
Settles part fitted host_seed =
    InTurn (SeedFor part.protocol fitted.seed host_seed) (λ seed.
    InTurn (BeginningsAre part.protocol fitted.values) (λ _.
    AnswersWith (probing_of part fitted.values seed)))

module _ (files : Files) where
  abbrev pub ProbingOf : (values : List ℕ) → (host_seed : Option (List ℕ)) → Part → Answer Probing → Type 0
  ProbingOf values host_seed part =
      InTurn (ValuesInFile files values (known_names part.protocol)) (λ fitted. Settles part fitted host_seed)

  -- What is asked, or the first refusal: of the narration, of the role, of the messages of all roles, of
  -- the values, of the seed, or of what the roles begin with.
  abbrev pub ProbingIs : (narration role values : List ℕ) → (host_seed : Option (List ℕ)) → Answer Probing → Type 0
  ProbingIs narration role values host_seed =
      InTurn (PartInFile files narration role) (ProbingOf values host_seed)

  -- the narration file is read; and where it has the role, and all can send, the values file
  abbrev pub IsReadToProbe : (narration role values : List ℕ) → List ℕ → Type 0
  IsReadToProbe narration role values file =
      (file ≡ narration)
      ⊎ ((file ≡ values) × ((part : Part) × PartInFile files narration role (given part)))
