-- Which values a text gives for some names.
use Rattle.std.specs.Prelude.{◌≡◌, ◌≢◌, not, ℕ, nat_lt, Bool, List, [], ◌∷◌, ◌++◌, length, map, filter, find, Option, Some, Result, Ok, Err, if◌then◌else◌}
use Rattle.std.specs.List.{list_any}
use Rattle.std.specs.Option.{option_map}
use Rattle.std.specs.Str.{bytes_eq}
use Rattle.anb_base.specs.declared.TheConstants.{ARRIVAL}
use Rattle.anb_index.specs.Places.{among}
use Rattle.anb_values.specs.declared.lines.Entry.{Entry}
use Rattle.anb_values.specs.declared.fitted.Fitted.{Fitted}
use Rattle.anb_values.specs.declared.refusal.ValuesNo.{ValuesNo}
use Rattle.anb_values.specs.declared.refusal.ValuesNo.TheVariants.{Line, Extra, Twice, Long, Missing, NoMemory}
use Rattle.anb_values.specs.Lines.{lines_of, AreSaid, IsFirstFaulty, seed_label}

abbrev pub has_line : List Entry → List ℕ → Bool
has_line entries label = list_any (λ entry. bytes_eq entry.label label) entries

-- the value of the first line with this label
abbrev pub value_of : List Entry → List ℕ → Option (List ℕ)
value_of entries label = option_map (λ entry. entry.value) (find (λ entry. bytes_eq entry.label label) entries)

-- the labels of lines, in order
abbrev pub labels_of : List Entry → List (List ℕ)
labels_of entries = map (λ entry. entry.label) entries

abbrev pub extra : List (List ℕ) → Entry → List ValuesNo
extra asked entry = if among asked entry.label then [] else Extra entry.label ∷ []

abbrev pub twice : List (List ℕ) → Entry → List ValuesNo
twice before entry = if among before entry.label then Twice entry.label ∷ [] else []

abbrev pub long : Entry → List ValuesNo
long entry = if nat_lt ARRIVAL (length entry.value) then Long entry.label ∷ [] else []

-- the faults of a line, where these labels are asked for and these are on the lines before it
abbrev pub line_faults : List (List ℕ) → List (List ℕ) → Entry → List ValuesNo
line_faults asked before entry = extra asked entry ++ twice before entry ++ long entry

abbrev pub lines_faults : List (List ℕ) → List (List ℕ) → List Entry → List ValuesNo
lines_faults asked before [] = []
lines_faults asked before (entry ∷ entries) =
    line_faults asked before entry ++ lines_faults asked (before ++ entry.label ∷ []) entries

-- the faults of the names
abbrev pub missing : List (List ℕ) → List Entry → List ValuesNo
missing names entries = map Missing (filter (λ name. not (has_line entries name)) names)

-- all the faults of a text whose lines are of the grammar: of its lines in order, and then of the names
abbrev pub faults : List (List ℕ) → List Entry → List ValuesNo
faults names entries = lines_faults (seed_label ∷ names) [] entries ++ missing names entries

abbrev pub BeginsWith : List ValuesNo → ValuesNo → Type 0
BeginsWith faults first = (rest : List ValuesNo) × (faults ≡ first ∷ rest)

abbrev pub Outcome : Type 0
Outcome = Result Fitted ValuesNo

-- what a text gives for some names: their values and the seed, or its first fault
abbrev pub Fit : List ℕ → List (List ℕ) → Outcome → Type 0
Fit text names (Ok fitted) = (entries : List Entry) × AreSaid (lines_of text) entries × (faults names entries ≡ [])
    × (map Some fitted.values ≡ map (value_of entries) names) × (fitted.seed ≡ value_of entries seed_label)
Fit text names (Err (Line n)) = IsFirstFaulty (lines_of text) n
Fit text names (Err fault) = (entries : List Entry) × AreSaid (lines_of text) entries × BeginsWith (faults names entries) fault

-- no text gives two outcomes for some names
abbrev pub FitIsUnique : Type 0
FitIsUnique = (text : List ℕ) (names : List (List ℕ)) (one other : Outcome) → Fit text names one → Fit text names other → one ≡ other

-- each text gives an outcome for some names, which is never want of memory
abbrev pub EachFits : Type 0
EachFits = (text : List ℕ) (names : List (List ℕ)) → (outcome : Outcome) × Fit text names outcome × (outcome ≢ Err NoMemory)

-- a fact for every refusal but want of memory
abbrev pub UnlessNoMemory : ValuesNo → Type 0 → Type 0
UnlessNoMemory NoMemory P = Unit {0}
UnlessNoMemory (Line n) P = P
UnlessNoMemory (Extra name) P = P
UnlessNoMemory (Twice name) P = P
UnlessNoMemory (Long name) P = P
UnlessNoMemory (Missing name) P = P
