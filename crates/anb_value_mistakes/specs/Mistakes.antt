-- What is said of a values file that gives no values for some names.
use Rattle.std.specs.Prelude.{◌≡◌, ℕ, ◌+◌, Bool, true, false, not, List, [], ◌∷◌, ◌++◌, filter, codes, Option, Some, None, if◌then◌else◌}
use Rattle.std.specs.List.{AllZip, flat_map, list_any}
use Rattle.anb_value_mistakes.specs.declared.labels.Remark.{Remark}
use Rattle.anb_index.specs.Places.{among}
use Rattle.anb_mistakes.specs.Near.{near_among, near_text}
use Rattle.anb_mistakes.specs.Pointing.{pointed_in}
use Rattle.anb_values.specs.Lines.{lines_of, seed_label}
use Rattle.anb_value_mistakes.specs.Classes.{count}
use Rattle.anb_value_mistakes.specs.Diagnosis.{diagnosis}
use Rattle.anb_value_mistakes.specs.Reading.{IsRead}
use Rattle.anb_value_mistakes.specs.Wording.{mend, message}
use Rattle.anb_value_mistakes.specs.declared.classes.Class.TheVariants.{Edge}
use Rattle.anb_value_mistakes.specs.declared.reading.Saying.{Saying}
use Rattle.anb_value_mistakes.specs.declared.reading.Saying.TheVariants.{Label, Faulty}
use Rattle.anb_value_mistakes.specs.declared.reading.ReadLine.{ReadLine}
use Rattle.anb_value_mistakes.specs.declared.wrong.Wrong.{Wrong}

-- ---- lines that aren't of the grammar

abbrev pub is_faulty : Saying → Bool
is_faulty Faulty = true
is_faulty said = false

abbrev pub pointed_wrong : (name : List ℕ) → (number : ℕ) → (line : List ℕ) → ℕ × Wrong → List ℕ
pointed_wrong name number line found = pointed_in name number line found.0 (message found.1) (mend found.1)

abbrev pub faulty_text : (name : List ℕ) → (number : ℕ) → ReadLine → List ℕ
faulty_text name number read = if is_faulty read.said then pointed_wrong name number read.line (diagnosis read.line) else []

-- each of them, where the lines have the numbers from this one on
abbrev pub faulty_texts : (name : List ℕ) → (number : ℕ) → List ReadLine → List ℕ
faulty_texts name number [] = []
faulty_texts name number (read ∷ reads) = faulty_text name number read ++ faulty_texts name (number + 1) reads

-- ---- labels

-- names, each behind a comma
abbrev pub with_commas : List (List ℕ) → List ℕ
with_commas names = flat_map (λ name. codes ", " ++ name) names

-- after these words, without the first comma; and where there are no names, these others
abbrev pub listed : (words others names : List ℕ) → List ℕ
listed words others [] = others
listed words others (comma ∷ names) = words ++ names

-- what is asked for, and which of it is near
abbrev pub asked_text : List (List ℕ) → List ℕ → List ℕ
asked_text names label =
    listed (codes "asked for:") (codes "nothing is asked for") (with_commas names) ++ near_text (near_among names label)

-- what is wrong with a label: it isn't asked for, or has a line already, or its value is too long
abbrev pub label_wrong : (names before : List (List ℕ)) → Bool → List ℕ → Option Remark
label_wrong names before is_long label =
    if not (among (seed_label ∷ names) label) then Some (record { message = label ++ codes " isn't asked for"; mend = asked_text names label })
    else (if among before label then Some (record { message = label ++ codes " twice"; mend = codes "a name has one line" })
    else (if is_long then Some (record { message = label ++ codes " is too long"; mend = codes "a value has at most 262144 bytes" })
    else None))

-- a remark at the first byte of a line that isn't dropped
abbrev pub remark_text : (name : List ℕ) → (number : ℕ) → (line : List ℕ) → Option Remark → List ℕ
remark_text name number line None = []
remark_text name number line (Some remark) = pointed_in name number line (count Edge line) remark.message remark.mend

abbrev pub said_text : (name : List ℕ) → (names : List (List ℕ)) → (number : ℕ) → (before : List (List ℕ)) → ReadLine → Saying → List ℕ
said_text name names number before read (Label label) = remark_text name number read.line (label_wrong names before read.is_long label)
said_text name names number before read said = []

abbrev pub labels_in : Saying → List (List ℕ)
labels_in (Label label) = label ∷ []
labels_in said = []

abbrev pub label_texts : (name : List ℕ) → (names : List (List ℕ)) → (number : ℕ) → (before : List (List ℕ)) → List ReadLine → List ℕ
label_texts name names number before [] = []
label_texts name names number before (read ∷ reads) =
    said_text name names number before read read.said ++ label_texts name names (number + 1) (before ++ labels_in read.said) reads

-- the labels of all lines
abbrev pub labels_of : List ReadLine → List (List ℕ)
labels_of reads = flat_map (λ read. labels_in read.said) reads

-- names without a line, all in one
abbrev pub missing_text : (name : List ℕ) → (missing : List ℕ) → List ℕ
missing_text name [] = []
missing_text name (comma ∷ missing) = name ++ (codes ": missing:" ++ (missing ++ codes "\n"))

abbrev pub missing : List (List ℕ) → List (List ℕ) → List (List ℕ)
missing names labels = filter (λ name. not (among labels name)) names

-- ---- all

-- The lines that aren't of the grammar, each at its place. Where all are of it: each label that is wrong, at its
-- line, and then the names without a line.
abbrev pub mistakes : (name : List ℕ) → (names : List (List ℕ)) → List ReadLine → List ℕ
mistakes name names reads =
    if list_any (λ read. is_faulty read.said) reads then faulty_texts name 1 reads
    else label_texts name names 1 [] reads ++ missing_text name (with_commas (missing names (labels_of reads)))

-- this is what is said of the text x, which is in a file of this name, where these names are asked for
pub record IsMistakesText (name x : List ℕ) (names : List (List ℕ)) (text : List ℕ) : Type 0 where
  pub reads : List ReadLine
  pub are : AllZip IsRead (lines_of x) reads
  pub is : text ≡ mistakes name names reads
