-- What is recorded is read.
use Rattle.std.specs.Prelude.{List, Ok}
use Rattle.std.specs.List.{AllByRecursion}
use Rattle.anb_transcript.specs.Texts.{Reads}
use Rattle.anb_transcript.specs.declared.transcript.TranscriptLine.{TranscriptLine}
use Rattle.anb_recording.specs.Lines.{IsPlain, lines_text}

-- each transcript that is written is read as its lines
abbrev pub WrittenLinesAreRead : Type 0
WrittenLinesAreRead = (lines : List TranscriptLine) → AllByRecursion IsPlain lines → Reads (lines_text lines) (Ok lines)
