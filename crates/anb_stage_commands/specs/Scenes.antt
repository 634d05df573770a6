-- What is asked of the children of a narration's roles, by its files.
use Rattle.std.specs.Prelude.{◌≡◌, ◌⊎◌, ℕ, ◌+◌, Bool, true, false, List, [], ◌∷◌, Option, Some, None}
use Rattle.std.specs.Option.{option_or}
use Rattle.anb_protocol.specs.Protocols.{ProtocolValue}
use Rattle.anb_protocol.specs.Texts.{known_names, known_texts}
use Rattle.anb_values.specs.declared.fitted.Fitted.{Fitted}
use Rattle.anb_values.specs.declared.refusal.ValuesNo.TheVariants.{Long}
use Rattle.anb_status.specs.declared.status.Status.TheVariants.{BadValues}
use Rattle.anb_command.specs.Fetches.{Files, IsOneOf}
use Rattle.anb_command.specs.Files.{ValuesInFile}
use Rattle.anb_command.specs.Steps.{Answer, AnswersWith, InTurn, given, refused}
use Rattle.anb_values_commands.specs.RoleValuesCommand.{first_long, own, own_text}
use Rattle.anb_stage_commands.specs.CastRoles.{CastInFile}
use Rattle.anb_stage_commands.specs.Words.{Staged, asked_for, names_file, own_files, words_for}

-- a protocol, and what is asked of the child of each of its roles
pub record Scene : Type 0 where
  pub protocol : ProtocolValue
  pub asked : List (List (List ℕ))

module _ (p : ProtocolValue) (fitted : Fitted) where
  -- the label of the first value that is too long, in the order of the roles from this one on
  abbrev pub long_from : ℕ → (names : List (List ℕ)) → Option (List ℕ)
  long_from role [] = None
  long_from role (name ∷ names) =
      option_or (first_long (known_texts p role) (own p role fitted).values) (long_from (role + 1) names)

  -- no value of a role's own is too long, or the first that is so is refused
  abbrev pub AreShort : Answer (Unit {0}) → Type 0
  AreShort (refused status) =
      (label : List ℕ) × (long_from 0 p.roles ≡ Some label) × (status ≡ BadValues (Long label))
  AreShort (given _) = long_from 0 p.roles ≡ None

  -- What is asked of the children of the roles from this one on, each with the file that `values` writes for
  -- its role.
  abbrev pub words_from : Staged → ℕ → (names : List (List ℕ)) → List (List (List ℕ))
  words_from s role [] = []
  words_from s role (name ∷ names) = asked_for s (Some (own_text p role fitted)) name ∷ words_from s (role + 1) names

module _ (files : Files) (s : Staged) where
  -- for this protocol, with the values in a folder, or with those in a file for all roles
  abbrev pub SceneBy : Bool → ProtocolValue → Answer Scene → Type 0
  SceneBy false p = AnswersWith (record { protocol = p; asked = words_for s p.roles })
  SceneBy true p =
      InTurn (ValuesInFile files s.values (known_names p)) (λ fitted.
      InTurn (AreShort p fitted) (λ _.
      AnswersWith (record { protocol = p; asked = words_from p fitted s 0 p.roles })))

  abbrev pub SceneInFiles : Answer Scene → Type 0
  SceneInFiles = InTurn (CastInFile files s) (SceneBy (names_file s.values))

  -- a file is read: the narration's, and behind it, where all is well with its roles, that of the values
  abbrev pub IsReadForScene : List ℕ → Type 0
  IsReadForScene file =
      (file ≡ s.narration) ⊎ (IsOneOf (own_files s) file × ((p : ProtocolValue) × CastInFile files s (given p)))
