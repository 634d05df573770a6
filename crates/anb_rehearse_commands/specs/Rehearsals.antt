-- What the words and the files ask to rehearse.
use Rattle.std.specs.Prelude.{◌≡◌, ◌↔◌, ◌⊎◌, ℕ, List, map, Bool, IsTrue, Option, Some}
use Rattle.std.specs.List.{position_from}
use Rattle.anb_honest.specs.Words.{names_none, words_of}
use Rattle.anb_protocol.specs.Plans.{MakesNames}
use Rattle.anb_protocol.specs.Protocols.{ProtocolValue, role_named}
use Rattle.anb_protocol.specs.Texts.{known_names}
use Rattle.anb_command.specs.declared.limits.TheConstants.{SCHEDULE_LIMIT}
use Rattle.anb_status.specs.declared.status.Status.TheVariants.{BadTurn}
use Rattle.anb_command.specs.Fetches.{Files}
use Rattle.anb_command.specs.Files.{FileIs, ValuesInFile}
use Rattle.anb_command.specs.Roles.{SendableInFile}
use Rattle.anb_command.specs.Seeds.{SeedIs}
use Rattle.anb_command.specs.Steps.{Answer, refused, given, InTurn, AnswersWith}

-- a protocol with the values of the names that occur in some role's knowledge, in order, and the seed
-- of all draws
pub record Setting : Type 0 where
  pub protocol : ProtocolValue
  pub values : List (List ℕ)
  pub seed : List ℕ

-- and the turns
pub record Rehearsal : Type 0 where
  pub setting : Setting
  pub turns : List ℕ

-- the seed; one is wanted where some role makes a name
abbrev pub SeedFor : ProtocolValue → Option (List ℕ) → Option (List ℕ) → Answer (List ℕ) → Type 0
SeedFor p told host_seed answer =
    (makes : Bool) × (IsTrue makes ↔ MakesNames p) × SeedIs makes told host_seed answer

-- the turns that a text names, or the first word of it, numbered from 1, that names no role
abbrev pub ScheduleIs : ProtocolValue → List ℕ → Answer (List ℕ) → Type 0
ScheduleIs p text (refused status) =
    (n : ℕ) × (status ≡ BadTurn n) × (position_from (names_none p) 1 (words_of text) ≡ Some n)
ScheduleIs p text (given turns) = map Some turns ≡ map (role_named p) (words_of text)

module _ (files : Files) where
  abbrev pub SettingOf : (values : List ℕ) → Option (List ℕ) → ProtocolValue → Answer Setting → Type 0
  SettingOf values host_seed p =
      InTurn (ValuesInFile files values (known_names p)) (λ fitted.
      InTurn (SeedFor p fitted.seed host_seed) (λ seed.
      AnswersWith (record { protocol = p; values = fitted.values; seed = seed })))

  abbrev pub SettingIs : (narration values : List ℕ) → Option (List ℕ) → Answer Setting → Type 0
  SettingIs narration values host_seed =
      InTurn (SendableInFile files narration) (SettingOf values host_seed)

  abbrev pub ScheduleInFile : (schedule : List ℕ) → ProtocolValue → Answer (List ℕ) → Type 0
  ScheduleInFile schedule p = InTurn (FileIs files schedule SCHEDULE_LIMIT) (ScheduleIs p)

  abbrev pub RehearsalOf : (schedule : List ℕ) → Setting → Answer Rehearsal → Type 0
  RehearsalOf schedule setting =
      InTurn (ScheduleInFile schedule setting.protocol) (λ turns.
      AnswersWith (record { setting = setting; turns = turns }))

  -- What is asked, or the first refusal: of the narration, of the messages of all roles, of the values,
  -- of the seed, or of the schedule.
  abbrev pub RehearsalIs : (narration values schedule : List ℕ) → Option (List ℕ) → Answer Rehearsal → Type 0
  RehearsalIs narration values schedule host_seed =
      InTurn (SettingIs narration values host_seed) (RehearsalOf schedule)

  -- The narration file is read; where all its roles can send, the values file; and where there are
  -- values and a seed, the schedule.
  abbrev pub IsReadForSetting : (narration values : List ℕ) → List ℕ → Type 0
  IsReadForSetting narration values file =
      (file ≡ narration)
      ⊎ ((file ≡ values) × ((p : ProtocolValue) × SendableInFile files narration (given p)))

  abbrev pub IsReadToRehearse : (narration values schedule : List ℕ) → Option (List ℕ) → List ℕ → Type 0
  IsReadToRehearse narration values schedule host_seed file =
      IsReadForSetting narration values file
      ⊎ ((file ≡ schedule) × ((s : Setting) × SettingIs narration values host_seed (given s)))
