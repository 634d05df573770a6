-- What `values` does for one role: from a values file for the whole narration it writes the role's own.
use Rattle.std.specs.Prelude.{◌≡◌, ◌⊎◌, ℕ, List, [], ◌∷◌, Option, Some, None, option_map, if◌then◌else◌}
use Rattle.anb_base.specs.Wires.{WireState}
use Rattle.anb_base.specs.declared.content.Suite.TheVariants.{One}
use Rattle.anb_seal.specs.Primitives.{mac_of}
use Rattle.anb_honest.specs.Joint.{cast, init_of, is_long}
use Rattle.anb_protocol.specs.Protocols.{ProtocolValue, role_name}
use Rattle.anb_protocol.specs.Texts.{known_names, known_texts}
use Rattle.anb_values.specs.declared.fitted.Fitted.{Fitted}
use Rattle.anb_values.specs.declared.refusal.ValuesNo.TheVariants.{Long}
use Rattle.anb_values_text.specs.Texts.{IsTextOf, values_text}
use Rattle.anb_status.specs.declared.status.Status.{Status}
use Rattle.anb_status.specs.declared.status.Status.TheVariants.{BadValues}
use Rattle.anb_status.specs.Statuses.{OnFileFault}
use Rattle.anb_command.specs.Fetches.{Files, IfTold}
use Rattle.anb_command.specs.Files.{ProtocolInFile, ValuesInFile}
use Rattle.anb_command.specs.Roles.{RoleIs}
use Rattle.anb_command.specs.Steps.{Answer, refused, given, InTurn}
use Rattle.anb_command.specs.Writing.{CompletesText, IsWritingOne}

-- the seed of a role: the mac of its name, with the seed of all as the key, over SHA-256
abbrev pub role_seed : (seed name : List ℕ) → List ℕ
role_seed seed name = mac_of One seed name

-- what a role's own file has: the values with which the role begins a rehearsal with these, and a seed of
-- its own, where these have one
abbrev pub own : ProtocolValue → ℕ → Fitted → Fitted
own p role fitted = record {
  values = init_of (cast p [] fitted.values []) role;
  seed = option_map (λ seed. role_seed seed (role_name p role)) fitted.seed;
}

-- the text of that file
abbrev pub own_text : ProtocolValue → ℕ → Fitted → List ℕ
own_text p role fitted = values_text (known_texts p role) (own p role fitted).values (own p role fitted).seed

-- the label of the first value that is longer than an arrival may be
abbrev pub first_long : (labels values : List (List ℕ)) → Option (List ℕ)
first_long [] values = None
first_long (label ∷ labels) [] = None
first_long (label ∷ labels) (value ∷ values) =
    if is_long value then Some label else first_long labels values

-- the role's own file, which is read as what it has; or the first value of it that no reader would take
abbrev pub OwnIs : ProtocolValue → ℕ → Fitted → Answer (List ℕ) → Type 0
OwnIs p role fitted (refused status) =
    (label : List ℕ) × (status ≡ BadValues (Long label))
    × (first_long (known_texts p role) (own p role fitted).values ≡ Some label)
OwnIs p role fitted (given text) =
    (first_long (known_texts p role) (own p role fitted).values ≡ None)
    × IsTextOf (known_texts p role) (own p role fitted) text

module _ (files : Files) where
  -- for the role of this name, from the values in a file
  abbrev pub OwnOf : (name values : List ℕ) → ProtocolValue → Answer (List ℕ) → Type 0
  OwnOf name values p =
      InTurn (RoleIs p name) (λ role. InTurn (ValuesInFile files values (known_names p)) (OwnIs p role))

  -- of the protocol in a narration's file; its roles need not be able to send
  abbrev pub RoleValuesText : (narration name values : List ℕ) → Answer (List ℕ) → Type 0
  RoleValuesText narration name values = InTurn (ProtocolInFile files narration) (OwnOf name values)

  -- a file is read: the narration's, and behind it, where it has a role of this name, the values file
  abbrev pub IsReadForValues : (narration name values : List ℕ) → List ℕ → Type 0
  IsReadForValues narration name values each =
      (each ≡ narration)
      ⊎ ((each ≡ values) × ((p : ProtocolValue) × (role : ℕ)
      × ProtocolInFile files narration (given p) × RoleIs p name (given role)))

module _ (narration name values : List ℕ) (told : Option Files) where
  pub record DoesRoleValues (old new : WireState) (status : Status) : Type 0 where
    pub writes : IfTold told (λ files.
        IsWritingOne (RoleValuesText files narration name values) status old.written new.written)
    -- a fault of a file comes only where that file is read
    pub reads : IfTold told (λ files.
        OnFileFault status (IsReadForValues files narration name values))

  abbrev pub CompletesRoleValues : Status → Type 0
  CompletesRoleValues status =
      IfTold told (λ files. CompletesText (RoleValuesText files narration name values) status)
