-- The words of `play`, `enact`, `branch` and `host` where what is played is recorded in a folder.
use Rattle.std.specs.Prelude.{ℕ, ◌-◌, List, length, take, drop, Option, Some, None, option_and_then}
use Rattle.anb_base.specs.declared.place.Place.{Place}
use Rattle.anb_words.specs.Words as words
use Rattle.anb_words.specs.Words.{Asked, asked_of}
use Rattle.anb_recorded.specs.Words.{folder_in}
use Rattle.anb_record_commands.specs.HostInto.{IsOfHost}
use Rattle.anb_record_commands.specs.Outcomes.{IsOfFolder}

-- what is asked of the command, and the name of the folder
pub data Recording : Type 0 where
  play : (narration role values : List ℕ) → Place → (folder : List ℕ) → Recording
  enact : (code values : List ℕ) → Place → (folder : List ℕ) → Recording
  branch : (narration role values : List ℕ) → (arm : Option ℕ) → Place → (folder : List ℕ) → Recording
  host : (narration role values : List ℕ) → Place → (folder : List ℕ) → Recording

-- the same without a folder
abbrev pub without_folder : Recording → Asked
without_folder (play narration role values place folder) = words.play narration role values place
without_folder (enact code values place folder) = words.enact code values place
without_folder (branch narration role values arm place folder) = words.branch narration role values arm place
without_folder (host narration role values place folder) = words.host narration role values place

-- a file of the recording
abbrev pub IsFileOf : Recording → List ℕ → Type 0
IsFileOf (play narration role values place folder) name = IsOfFolder folder name
IsFileOf (enact code values place folder) name = IsOfFolder folder name
IsFileOf (branch narration role values arm place folder) name = IsOfFolder folder name
IsFileOf (host narration role values place folder) name = IsOfHost folder name

abbrev pub recording_in : Option Asked → (folder : List ℕ) → Option Recording
recording_in (Some (words.play narration role values place)) folder = Some (play narration role values place folder)
recording_in (Some (words.enact code values place)) folder = Some (enact code values place folder)
recording_in (Some (words.branch narration role values arm place)) folder = Some (branch narration role values arm place folder)
recording_in (Some (words.host narration role values place)) folder = Some (host narration role values place folder)
recording_in asked folder = None

-- the last two words are `--record` and a name, and before them stand the words of `play`, `enact`, `branch` or `host`
abbrev pub recording_of : List (List ℕ) → Option Recording
recording_of all =
    let before = length all - 2 in
    option_and_then (recording_in (asked_of (take before all))) (folder_in (drop before all))
