-- The words of `stage`, and those of the children that it starts.
use Rattle.std.specs.Prelude.{ℕ, ◌-◌, nat_eq, length, take, drop, Bool, true, false, not, ◌==◌, ◌&&◌, List, [], ◌∷◌, ◌++◌, codes, bytes_eq, filter, map, Option, Some, None, is_some, option_and_then, if◌then◌else◌}
use Rattle.std.specs.List.{ends_with, list_any, slice_split}
use Rattle.std.specs.Option.{option_map, option_map_or}
use Rattle.anb_stage.specs.Children.{asked_words}
use Rattle.anb_stage.specs.Words.{file_word}
use Rattle.anb_recorded.specs.Words.{folder_in}
use Rattle.anb_words.specs.Words.{is_operand, seconds_in}

-- a role, and the program that plays it, as it is said
pub record Cast : Type 0 where
  pub role : List ℕ
  pub program : List ℕ

-- the names of the narration's file and of a folder with the values of each role, or of a file with the
-- values of all, the programs of some roles, and for how many seconds a child may be silent, where that is
-- said
pub record Staged : Type 0 where
  pub narration : List ℕ
  pub values : List ℕ
  pub casts : List Cast
  pub limit : Option ℕ

-- ---- programs

abbrev pub is_space : ℕ → Bool
is_space byte = byte == 32

abbrev pub is_word : List ℕ → Bool
is_word [] = false
is_word (byte ∷ word) = true

-- the words of a program stand between spaces
abbrev pub program_words : List ℕ → List (List ℕ)
program_words program = filter is_word (slice_split is_space program)

-- a program has a word
abbrev pub names_program : List ℕ → Bool
names_program program = list_any (λ byte. not (is_space byte)) program

abbrev pub cast : (role program : List ℕ) → Cast
cast role program = record { role = role; program = program }

-- the program of a role, where one is said
abbrev pub program_of : List Cast → (role : List ℕ) → Option (List ℕ)
program_of [] role = None
program_of (c ∷ casts) role = if bytes_eq c.role role then Some c.program else program_of casts role

abbrev pub has_none_twice : List Cast → Bool
has_none_twice [] = true
has_none_twice (c ∷ casts) = not (is_some (program_of casts c.role)) && has_none_twice casts

-- ---- the words

-- behind the programs may stand `--timeout` and seconds
abbrev pub limit_in : List (List ℕ) → Option (Option ℕ)
limit_in [] = Some None
limit_in (flag ∷ seconds ∷ []) =
    if bytes_eq flag (codes "--timeout") then option_map Some (seconds_in seconds) else None
limit_in words = None

-- a program is said by `--as`, the name of a role, and the program as one word
abbrev pub is_cast : (flag role program : List ℕ) → Bool
is_cast flag role program =
    bytes_eq flag (codes "--as") && is_operand role && is_operand program && names_program program

-- behind the names stand programs, as many as one likes, and then perhaps that limit
pub record Options : Type 0 where
  pub casts : List Cast
  pub limit : Option ℕ

abbrev pub with_cast : Cast → Options → Options
with_cast c options = record options { casts = c ∷ options.casts }

abbrev pub options_of : Option ℕ → Options
options_of limit = record { casts = []; limit = limit }

abbrev pub options_in : List (List ℕ) → Option Options
options_in (flag ∷ role ∷ program ∷ words) =
    if is_cast flag role program then option_map (with_cast (cast role program)) (options_in words) else None
options_in words = option_map options_of (limit_in words)

-- no role has two programs
abbrev pub stage_of : (narration values : List ℕ) → Options → Option Staged
stage_of narration values options =
    if has_none_twice options.casts
    then Some (record { narration = narration; values = values; casts = options.casts; limit = options.limit })
    else None

abbrev pub stage_in : List (List ℕ) → Option Staged
stage_in (narration ∷ values ∷ words) =
    if is_operand narration && is_operand values
    then option_and_then (stage_of narration values) (options_in words) else None
stage_in words = None

abbrev pub staged_of : List (List ℕ) → Option Staged
staged_of [] = None
staged_of (command ∷ words) = if bytes_eq command (codes "stage") then stage_in words else None

-- ---- records

-- what is asked of a stage that is recorded, and the name of the folder
pub record StagedInto : Type 0 where
  pub staged : Staged
  pub folder : List ℕ

abbrev pub into : (folder : List ℕ) → Option Staged → Option StagedInto
into folder staged = option_map (λ s. record { staged = s; folder = folder }) staged

-- the last two words are `--record` and a name, and before them stand the words of a stage
abbrev pub staged_into_of : List (List ℕ) → Option StagedInto
staged_into_of all =
    let before = length all - 2 in
    option_and_then (λ folder. into folder (staged_of (take before all))) (folder_in (drop before all))

-- ---- values

-- the name of a file with values ends so, and any other is a folder's
abbrev pub names_file : List ℕ → Bool
names_file name = ends_with nat_eq name (codes ".values")

-- the files that are read
abbrev pub own_files : Staged → List (List ℕ)
own_files s = if names_file s.values then s.values ∷ [] else []

abbrev pub staged_files : Staged → List (List ℕ)
staged_files s = s.narration ∷ own_files s

-- ---- children

-- the name of the file in the folder with a role's values, or what stands for a file of its own
abbrev pub values_for : Staged → (role : List ℕ) → (own : Option (List ℕ)) → List ℕ
values_for s role None = s.values ++ (47 ∷ (role ++ codes ".values"))
values_for s role (Some bytes) = file_word bytes

-- the words of a role's child: it plays the role with these values
abbrev pub child_words : Staged → (role : List ℕ) → (own : Option (List ℕ)) → List (List ℕ)
child_words s role own = codes "play" ∷ s.narration ∷ role ∷ values_for s role own ∷ []

-- those of its program; none where the role is `anb`'s
abbrev pub program_for : Staged → (role : List ℕ) → List (List ℕ)
program_for s role = option_map_or program_words (program_of s.casts role) []

-- what is asked of it: it is that program, may be silent for so long, and has these words
abbrev pub asked_for : Staged → (own : Option (List ℕ)) → (role : List ℕ) → List (List ℕ)
asked_for s own role = asked_words s.limit (program_for s role) (child_words s role own)

-- of all children, with the values in a folder
abbrev pub words_for : Staged → (roles : List (List ℕ)) → List (List (List ℕ))
words_for s roles = map (asked_for s None) roles
