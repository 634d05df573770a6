-- What the words and the files ask to play of a branched text.
use Rattle.std.specs.Prelude.{◌≡◌, ◌⊎◌, ℕ, ◌&&◌, not, nat_le, List, [], length, Bool, true, false, All, Option, Some, None, slice_get, if◌then◌else◌}
use Rattle.std.specs.Option.{option_map_or}
use Rattle.std.specs.List.{list_any}
use Rattle.std.specs.Str.{bytes_eq}
use Rattle.anb_index.specs.Places.{among}
use Rattle.anb_protocol.specs.Choices.{refuse_if}
use Rattle.anb_protocol.specs.Plays.{IsSendable}
use Rattle.anb_protocol.specs.Protocols.{ProtocolValue, role_number}
use Rattle.anb_protocol.specs.Texts.{known_texts}
use Rattle.anb_choice.specs.Branching.{BranchedText, IsRefusal}
use Rattle.anb_choice.specs.Lawful.{BranchedValue, IsLawful, roles_in}
use Rattle.anb_outcomes.specs.declared.choices.BranchNo.{BranchNo}
use Rattle.anb_branch.specs.Arms.{RefusesArms}
use Rattle.anb_branch.specs.Taken.{IsTold}
use Rattle.anb_branch.specs.declared.compiling.ArmNo.TheVariants.{CannotSend}
use Rattle.anb_command.specs.declared.limits.TheConstants.{NARRATION_LIMIT}
use Rattle.anb_status.specs.declared.status.Status.TheVariants.{ArmCannotSend, BadArm, BadBranch, NoRole}
use Rattle.anb_command.specs.Fetches.{Files}
use Rattle.anb_command.specs.Files.{FileIs, ValuesInFile}
use Rattle.anb_command.specs.Seeds.{SeedIs}
use Rattle.anb_command.specs.Steps.{Answer, refused, given, InTurn, AnswersWith}
use Rattle.anb_role_commands.specs.Jobs.{makes_names}

-- ---- the steps

-- the choice that a text tells, which is lawful
abbrev pub BranchIs : List ℕ → Answer BranchedValue → Type 0
BranchIs text (refused status) = (why : BranchNo) × (status ≡ BadBranch why) × IsRefusal text why
BranchIs text (given b) = BranchedText text b × IsLawful b

-- there is a role with this name
abbrev pub HasRole : BranchedValue → (role : List ℕ) → Answer (Unit {0}) → Type 0
HasRole b role (refused status) = (status ≡ NoRole role) × (among (roles_in b) role ≡ false)
HasRole b role (given _) = among (roles_in b) role ≡ true

-- In each arm each role can send what it must; or there is a first arm where some role can't, and a
-- first action there whose message no recipe gives to its sender.
abbrev pub ArmsSend : BranchedValue → Answer (Unit {0}) → Type 0
ArmsSend b (refused status) =
    (arm : ℕ) × (action : ℕ) × (sender : List ℕ) × RefusesArms b.arms (CannotSend arm action sender)
    × (status ≡ ArmCannotSend arm action sender)
ArmsSend b (given _) = All IsSendable b.arms

-- What doesn't fit of what the chooser is told, where there are so many arms: 0 where it is told
-- none, and a number that no arm has.
abbrev pub misfit_among : ℕ → (told : Option ℕ) → Option ℕ
misfit_among count None = Some 0
misfit_among count (Some number) = refuse_if (not (nat_le 1 number && nat_le number count)) number

-- The number that doesn't fit. Every other role is told none.
abbrev pub misfit : BranchedValue → (role : List ℕ) → (told : Option ℕ) → Option ℕ
misfit b role told = if bytes_eq role b.chooser then misfit_among (length b.arms) told else told

-- what is told fits the role
abbrev pub ToldIs : BranchedValue → (role : List ℕ) → (told : Option ℕ) → Answer (Unit {0}) → Type 0
ToldIs b role told (refused status) =
    (number : ℕ) × (misfit b role told ≡ Some number) × (status ≡ BadArm number)
ToldIs b role told (given _) = IsTold b role told

-- a role of a branched text, where all roles can send in all arms, and what it is told
abbrev pub SeatOf : (role : List ℕ) → (told : Option ℕ) → BranchedValue
    → Answer BranchedValue → Type 0
SeatOf role told b =
    InTurn (HasRole b role) (λ _.
    InTurn (ArmsSend b) (λ _.
    InTurn (ToldIs b role told) (λ _.
    AnswersWith b)))

-- the texts of what the role knows, which are the same in all arms
abbrev pub known_in : BranchedValue → (role : List ℕ) → List (List ℕ)
known_in b role =
    option_map_or (λ (arm : ProtocolValue). known_texts arm (role_number arm.roles role))
    (slice_get b.arms 0) []

-- in some arm the role's plan makes a name
abbrev pub makes_in : BranchedValue → (role : List ℕ) → Bool
makes_in b role =
    list_any (λ (arm : ProtocolValue). makes_names arm (role_number arm.roles role)) b.arms

-- ---- all steps

-- a role of a branched text with what it is told, its initial values and the seed of its draws
pub record BranchJob : Type 0 where
  pub branched : BranchedValue
  pub role : List ℕ
  pub told : Option ℕ
  pub initial : List (List ℕ)
  pub seed : List ℕ

module _ (files : Files) where
  abbrev pub BranchInFile : (narration : List ℕ) → Answer BranchedValue → Type 0
  BranchInFile narration = InTurn (FileIs files narration NARRATION_LIMIT) BranchIs

  abbrev pub SeatInFile : (narration role : List ℕ) → (told : Option ℕ)
      → Answer BranchedValue → Type 0
  SeatInFile narration role told = InTurn (BranchInFile narration) (SeatOf role told)

  -- What a role plays from the values in a file, where this seed is handed in. A role that makes a
  -- name in some arm needs a seed, whatever arm is taken.
  abbrev pub BranchJobOf : (role values : List ℕ) → (told : Option ℕ) → Option (List ℕ)
      → BranchedValue → Answer BranchJob → Type 0
  BranchJobOf role values told host_seed b =
      InTurn (ValuesInFile files values (known_in b role)) (λ fitted.
      InTurn (SeedIs (makes_in b role) fitted.seed host_seed) (λ seed.
      AnswersWith (record {
        branched = b;
        role = role;
        told = told;
        initial = fitted.values;
        seed = seed;
      })))

  -- What is asked, or the first refusal: of the text, of the role, of the messages of all roles in
  -- all arms, of the number of an arm, of the values, or of the seed.
  abbrev pub BranchJobIs : (narration role values : List ℕ) → (told : Option ℕ)
      → Option (List ℕ) → Answer BranchJob → Type 0
  BranchJobIs narration role values told host_seed =
      InTurn (SeatInFile narration role told) (BranchJobOf role values told host_seed)

  -- the text's file is read, and where the role can be played as it is told, the values file
  abbrev pub IsReadToBranch : (narration role values : List ℕ) → (told : Option ℕ)
      → List ℕ → Type 0
  IsReadToBranch narration role values told file =
      (file ≡ narration)
      ⊎ ((file ≡ values) × ((b : BranchedValue) × SeatInFile narration role told (given b)))
