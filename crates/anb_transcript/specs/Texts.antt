-- The text of a transcript.
use Rattle.std.specs.Prelude.{◌≡◌, ◌≢◌, ◌==◌, ◌≤◌, ◌+◌, ℕ, List, [], ◌∷◌, ◌++◌, length, Result, Ok, Err, if◌then◌else◌}
use Rattle.std.specs.List.{AllZip, onto_first}
use Rattle.hex.specs.Hex.{decode_of}
use Rattle.anb_base.specs.declared.TheConstants.{ARRIVAL}
use Rattle.anb_transcript.specs.declared.transcript.TranscriptLine.{TranscriptLine}
use Rattle.anb_transcript.specs.declared.transcript.TranscriptLine.TheVariants.{In, Out}
use Rattle.anb_transcript.specs.declared.transcript.TranscriptNo.{TranscriptNo}
use Rattle.anb_transcript.specs.declared.transcript.TranscriptNo.TheVariants.{Line, NoMemory}

-- the lines of a text, each ended by the byte 0A, which may be missing behind the last
abbrev pub lines_of : List ℕ → List (List ℕ)
lines_of [] = []
lines_of (b ∷ bs) = if b == 10 then [] ∷ lines_of bs else onto_first b (lines_of bs)

-- a sign, a space, and two hexadecimal digits of either case for each of these bytes
abbrev pub IsSpelled : ℕ → List ℕ → List ℕ → Type 0
IsSpelled sign line bytes = (digits : List ℕ) × (line ≡ sign ∷ 32 ∷ digits) × (decode_of digits ≡ Ok bytes)

-- what a line says: `<` stands before an arrival, and `>` before a message
abbrev pub Says : List ℕ → TranscriptLine → Type 0
Says line (In arrival) = IsSpelled 60 line arrival × (length arrival ≤ ARRIVAL)
Says line (Out message) = IsSpelled 62 line message

-- the first line that isn't of the grammar, numbered from 1
abbrev pub IsFirstFaulty : List (List ℕ) → ℕ → Type 0
IsFirstFaulty lines n = (before : List (List ℕ)) × (line : List ℕ) × (after : List (List ℕ)) × (said : List TranscriptLine)
    × (lines ≡ before ++ line ∷ after) × (n ≡ length before + 1) × AllZip Says before said × ((other : TranscriptLine) → Says line other → ⊥)

-- what is read in a text: what its lines say, in order, or the first faulty one. Want of memory says nothing
abbrev pub Reads : List ℕ → Result (List TranscriptLine) TranscriptNo → Type 0
Reads text (Ok said) = AllZip Says (lines_of text) said
Reads text (Err (Line n)) = IsFirstFaulty (lines_of text) n
Reads text (Err NoMemory) = Unit {0}

-- each text is a transcript of some lines, or has a first faulty line, and never both, nor two of either
abbrev pub ReadsOne : Type 0
ReadsOne = (text : List ℕ) → (one : Result (List TranscriptLine) TranscriptNo) × (one ≢ Err NoMemory) × Reads text one
    × ((other : Result (List TranscriptLine) TranscriptNo) → other ≢ Err NoMemory → Reads text other → other ≡ one)
