-- What the words and the files ask to play.
use Rattle.std.specs.Prelude.{◌≡◌, ◌⊎◌, ℕ, List, Bool, Option}
use Rattle.std.specs.List.{list_any}
use Rattle.anb_protocol.specs.Plans.{is_to_make, plan_of}
use Rattle.anb_protocol.specs.Protocols.{ProtocolValue}
use Rattle.anb_protocol.specs.Texts.{known_texts}
use Rattle.anb_command.specs.Fetches.{Files}
use Rattle.anb_command.specs.Files.{ValuesInFile}
use Rattle.anb_command.specs.Roles.{Part, PartInFile}
use Rattle.anb_command.specs.Seeds.{SeedIs}
use Rattle.anb_command.specs.Steps.{Answer, given, InTurn, AnswersWith}

-- the role's plan makes a name
abbrev pub makes_names : ProtocolValue → ℕ → Bool
makes_names p role = list_any is_to_make (plan_of p role)

-- a role of a protocol with its initial values and the seed of its draws
pub record Job : Type 0 where
  pub protocol : ProtocolValue
  pub role : ℕ
  pub initial : List (List ℕ)
  pub seed : List ℕ

module _ (files : Files) where
  -- what a role plays from the values in a file, where this seed is handed in
  abbrev pub JobOf : (values : List ℕ) → Option (List ℕ) → Part → Answer Job → Type 0
  JobOf values host_seed part =
      InTurn (ValuesInFile files values (known_texts part.protocol part.role)) (λ fitted.
      InTurn (SeedIs (makes_names part.protocol part.role) fitted.seed host_seed) (λ seed.
      AnswersWith (record { protocol = part.protocol; role = part.role; initial = fitted.values; seed = seed })))

  -- What is asked, or the first refusal: of the narration, of the role, of the messages of all roles, of
  -- the values, or of the seed.
  abbrev pub JobIs : (narration name values : List ℕ) → Option (List ℕ) → Answer Job → Type 0
  JobIs narration name values host_seed = InTurn (PartInFile files narration name) (JobOf values host_seed)

  -- the narration file is read, and where it has the role, and all can send, the values file
  abbrev pub IsRead : (narration name values : List ℕ) → List ℕ → Type 0
  IsRead narration name values file = (file ≡ narration) ⊎ ((file ≡ values) × ((part : Part) × PartInFile files narration name (given part)))
