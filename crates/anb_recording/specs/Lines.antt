-- The text of a transcript, as it is written line by line.
use Rattle.std.specs.Prelude.{◌≤◌, ℕ, List, [], ◌∷◌, ◌++◌, length}
use Rattle.hex.specs.Hex.{encode_lower}
use Rattle.anb_base.specs.Bytes.{IsBytes}
use Rattle.anb_base.specs.declared.TheConstants.{ARRIVAL}
use Rattle.anb_transcript.specs.declared.transcript.TranscriptLine.{TranscriptLine}
use Rattle.anb_transcript.specs.declared.transcript.TranscriptLine.TheVariants.{In, Out}

-- a sign, a space, two lower-case digits for each byte, and the line's end
abbrev pub spelled : (sign : ℕ) → (bytes : List ℕ) → List ℕ
spelled sign bytes = sign ∷ 32 ∷ encode_lower bytes ++ 10 ∷ []

-- `<` stands before an arrival, and `>` before a message
abbrev pub line_text : TranscriptLine → List ℕ
line_text (In arrival) = spelled 60 arrival
line_text (Out message) = spelled 62 message

abbrev pub lines_text : List TranscriptLine → List ℕ
lines_text [] = []
lines_text (line ∷ lines) = line_text line ++ lines_text lines

-- a line of bytes, whose arrival is no longer than one may be
abbrev pub IsPlain : TranscriptLine → Type 0
IsPlain (In arrival) = IsBytes arrival × (length arrival ≤ ARRIVAL)
IsPlain (Out message) = IsBytes message
