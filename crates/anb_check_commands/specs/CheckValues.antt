-- What `check` does of a role and a values file: it says what is wrong in the file.
use Rattle.std.specs.Prelude.{◌≡◌, ◌⊎◌, ℕ, true, false, List, [], take, Option}
use Rattle.anb_base.specs.Moves.{Put}
use Rattle.anb_base.specs.Wires.{WireState}
use Rattle.anb_protocol.specs.Texts.{known_texts}
use Rattle.anb_values.specs.declared.fitted.Fitted.{Fitted}
use Rattle.anb_value_mistakes.specs.Mistakes.{IsMistakesText}
use Rattle.anb_visible.specs.Visible.{IsClean, visible}
use Rattle.anb_command.specs.declared.limits.TheConstants.{VALUES_LIMIT}
use Rattle.anb_command.specs.Fetches.{Files, IfTold}
use Rattle.anb_command.specs.Files.{FileIs, ValuesAre}
use Rattle.anb_command.specs.Roles.{Part, PartInFile}
use Rattle.anb_command.specs.Steps.{Answer, refused, given, InTurn, AnswersWith}
use Rattle.anb_status.specs.Statuses.{is_fault}
use Rattle.anb_status.specs.declared.status.Status.{Status}
use Rattle.anb_status.specs.declared.status.Status.TheVariants.{Done, FileFault, Unreached, WriteFault, NoMemory}

-- the text of a values file, and the names that a role knows
pub record ValuesText : Type 0 where
  pub names : List (List ℕ)
  pub text : List ℕ

abbrev pub values_text : (names : List (List ℕ)) → (text : List ℕ) → ValuesText
values_text names text = record { names = names; text = text }

-- the status of the values, as `play` has it
abbrev pub HasStatus : ValuesText → Status → Type 0
HasStatus asked status =
    ValuesAre asked.names asked.text (refused status)
    ⊎ ((fitted : Fitted) × ValuesAre asked.names asked.text (given fitted) × (status ≡ Done))

-- The status, and what is written: what is wrong in the file of this name, with control bytes, and what isn't
-- UTF-8, as `\x1b`.
pub record IsValuesVerdict (values : List ℕ) (asked : ValuesText) (status : Status) (out : List ℕ) : Type 0 where
  pub ends : HasStatus asked status
  pub said : List ℕ
  pub mistakes : IsMistakesText values asked.text asked.names said
  pub shown : out ≡ visible said
  pub clean : IsClean out

module _ (files : Files) (narration name values : List ℕ) where
  -- the text of the values file, where the narration has the role, and all its roles can send
  abbrev pub ValuesTextIs : Answer ValuesText → Type 0
  ValuesTextIs =
      InTurn (PartInFile files narration name) (λ part.
      InTurn (FileIs files values VALUES_LIMIT) (λ text.
      AnswersWith (values_text (known_texts part.protocol part.role) text)))

  -- the narration file is read; and where it has the role, and all can send, the values file
  abbrev pub IsReadToCheck : List ℕ → Type 0
  IsReadToCheck file =
      (file ≡ narration) ⊎ ((file ≡ values) × ((part : Part) × PartInFile files narration name (given part)))

  -- an outcome, where no fault comes: a refusal that `play` has before it reads the values, or the verdict on these
  abbrev pub Finds : Status → List ℕ → Type 0
  Finds status out =
      (ValuesTextIs (refused status) × (out ≡ []))
      ⊎ ((asked : ValuesText) × ValuesTextIs (given asked) × IsValuesVerdict values asked status out)

  abbrev pub FindsPart : List ℕ → Type 0
  FindsPart out =
      (asked : ValuesText) × (status : Status) × (whole : List ℕ) × ValuesTextIs (given asked)
      × IsValuesVerdict values asked status whole × ((n : ℕ) × (out ≡ take n whole))

  -- what is written where a fault comes, or memory is wanting
  abbrev pub FindsLess : Status → List ℕ → Type 0
  FindsLess WriteFault out = FindsPart out
  FindsLess NoMemory out = out ≡ []
  FindsLess (Unreached place) out = ((asked : ValuesText) × ValuesTextIs (given asked)) × (out ≡ [])
  FindsLess (FileFault file) out = (out ≡ []) × IsReadToCheck file
  FindsLess status out = ⊥

  pub record IsFinding (result : Status) (written written_now : Option (List ℕ)) : Type 0 where
    -- the status and what is written are an outcome
    pub is : is_fault result ≡ false → (out : List ℕ) × Finds result out × Put written written_now out
    -- and each outcome has this status
    pub only : is_fault result ≡ false → (status : Status) (out : List ℕ) → Finds status out → result ≡ status
    pub cut_short : is_fault result ≡ true → (out : List ℕ) × FindsLess result out × Put written written_now out

module _ (narration name values : List ℕ) (told : Option Files) where
  abbrev pub DoesCheckValues : (old new : WireState) → Status → Type 0
  DoesCheckValues old new status =
      IfTold told (λ files. IsFinding files narration name values status old.written new.written)

  -- where nothing failed it is an outcome, or memory was wanting
  abbrev pub CompletesCheckValues : Status → Type 0
  CompletesCheckValues status =
      IfTold told (λ files. ((out : List ℕ) × Finds files narration name values status out) ⊎ (status ≡ NoMemory))
