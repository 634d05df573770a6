-- The record of a test, in its folder.
use Rattle.std.specs.Prelude.{◌≡◌, ◌≢◌, ◌⊎◌, ◌<◌, ℕ, ◌+◌, List, ◌∷◌, ◌++◌, length, slice_get, codes, decimal, Some}
use Rattle.anb_attempts.specs.declared.attempts.TheConstants.{MOST}
use Rattle.anb_recording.specs.Journals.{Files}
use Rattle.anb_recording.specs.Lines.{lines_text}
use Rattle.anb_recorded.specs.Names.{values_in}
use Rattle.anb_store.specs.Stores.{StoreState}
use Rattle.anb_probe_commands.specs.Plays.{CaseEnd}

-- ---- files

-- what the child of the case with this number heard and said, by its number in the report, from 1
abbrev pub transcript_of : (folder : List ℕ) → (number : ℕ) → List ℕ
transcript_of folder number = folder ++ (47 ∷ (decimal number ++ codes ".transcript"))

-- and what it wrote to its standard error, which no clause speaks of
abbrev pub errors_of : (folder : List ℕ) → (number : ℕ) → List ℕ
errors_of folder number = folder ++ (47 ∷ (decimal number ++ codes ".errors"))

-- one of the record's files: the values of the role, or a file of a case
abbrev pub IsOfRecord : (folder : List ℕ) → List ℕ → Type 0
IsOfRecord folder name =
    (name ≡ values_in folder)
    ⊎ ((case : ℕ) × (case < MOST) × ((name ≡ transcript_of folder (case + 1)) ⊎ (name ≡ errors_of folder (case + 1))))

-- ---- what they hold

-- a file is that of one of these cases' transcripts
abbrev pub IsTranscriptOf : (folder : List ℕ) → List CaseEnd → List ℕ → Type 0
IsTranscriptOf folder ends name = (case : ℕ) × (case < length ends) × (name ≡ transcript_of folder (case + 1))

-- wherever the store's files are told, the values and the transcript of each of these cases are there, and each other
-- file is as it was
abbrev pub HoldsCases : (folder : List ℕ) → (store store_now : StoreState) → (values : List ℕ) → List CaseEnd → Type 0
HoldsCases folder store store_now values ends = (files : Files) → store.files ≡ Some files
    → (now : Files) × (store_now.files ≡ Some now) × (now (values_in folder) ≡ Some values)
    × ((case : ℕ) (end : CaseEnd) → slice_get ends case ≡ Some end
    → now (transcript_of folder (case + 1)) ≡ Some (lines_text end.lines))
    × ((name : List ℕ) → name ≢ values_in folder → (IsTranscriptOf folder ends name → ⊥) → now name ≡ files name)
