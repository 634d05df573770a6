-- A transcript in a file is one, and its refusals come before the wire is reached.
use Rattle.std.proofs.Common.{◌≡◌, ◌≢◌, ℕ, List, [], ◌∷◌, ◌++◌, Option, Result, Ok, Err, refl, ap, sym, ◌∙◌}
use Rattle.std.specs.List.{AllByRecursion, AllZip}
use Rattle.hex.proofs.HexLemmas.{decode_of-ok}
use Rattle.anb_base.specs.Bytes.{IsBytes}
use Rattle.anb_transcript.specs.Replays.{arrivals_of}
use Rattle.anb_transcript.specs.Texts.{Reads, ReadsOne, Says, lines_of}
use Rattle.anb_transcript.specs.declared.transcript.TranscriptLine.{TranscriptLine}
use Rattle.anb_transcript.specs.declared.transcript.TranscriptLine.TheVariants.{In, Out}
use Rattle.anb_transcript.specs.declared.transcript.TranscriptNo.{TranscriptNo}
use Rattle.anb_transcript.specs.declared.transcript.TranscriptNo.TheVariants as reading
use Rattle.anb_command.specs.declared.limits.TheConstants.{TRANSCRIPT_LIMIT}
use Rattle.anb_status.specs.declared.status.Status.TheVariants.{BadTranscript}
use Rattle.anb_command.specs.Files.{FileIs, TranscriptIs, TranscriptInFile}
use Rattle.anb_command.specs.Steps.{refused, given, HasOneAnswer}
use Rattle.anb_command.proofs.Ones.{RefusesQuietly, file_one, file_quiet, quiet_as, then_one, then_quiet}

-- what is read in a text is one thing
abbrev Read : Type 0
Read = Result (List TranscriptLine) TranscriptNo

abbrev faulty_at : ℕ → Read
faulty_at n = Err (reading.Line n)

abbrev has_lines : List TranscriptLine → Read
has_lines lines = Ok lines

abbrev no_memory : Read
no_memory = Err reading.NoMemory

read_once : ReadsOne → (text : List ℕ) (one other : Read) → one ≢ no_memory → other ≢ no_memory → Reads text one → Reads text other → one ≡ other
read_once law text one other some also x y = let it = law text in it.3 one some x ∙ sym (it.3 other also y)

is_line : (n : ℕ) → faulty_at n ≢ no_memory
is_line n never = absurd (cc)

is_read : (lines : List TranscriptLine) → has_lines lines ≢ no_memory
is_read lines never = absurd (cc)

not_read : {P : Type 0} (n : ℕ) (lines : List TranscriptLine) → faulty_at n ≡ has_lines lines → P
not_read n lines never = absurd (cc)

same_line : (n m : ℕ) → faulty_at n ≡ faulty_at m → n ≡ m
same_line n m same = cc

same_lines : (lines others : List TranscriptLine) → has_lines lines ≡ has_lines others → lines ≡ others
same_lines lines others same = cc

transcript_one : ReadsOne → (text : List ℕ) → HasOneAnswer (TranscriptIs text)
transcript_one law text (refused s) (refused t) (n, is, x) (m, js, y) =
    ap refused (is ∙ ap BadTranscript (same_line n m (read_once law text (faulty_at n) (faulty_at m) (is_line n) (is_line m) x y)) ∙ sym js)
transcript_one law text (refused s) (given lines) (n, is, x) y =
    not_read n lines (read_once law text (faulty_at n) (has_lines lines) (is_line n) (is_read lines) x y)
transcript_one law text (given lines) (refused t) x (n, is, y) =
    not_read n lines (read_once law text (faulty_at n) (has_lines lines) (is_line n) (is_read lines) y x)
transcript_one law text (given lines) (given others) x y =
    ap given (same_lines lines others (read_once law text (has_lines lines) (has_lines others) (is_read lines) (is_read others) x y))

transcript_quiet : (text : List ℕ) → RefusesQuietly (TranscriptIs text)
transcript_quiet text = record { each = λ s why. quiet_as s _ why.1 (refl, refl) }

module _ (files : List ℕ → Option (List ℕ)) (name : List ℕ) where
  pub transcript_in_file_one : ReadsOne → HasOneAnswer (TranscriptInFile files name)
  transcript_in_file_one law = then_one (FileIs files name TRANSCRIPT_LIMIT) TranscriptIs (file_one files name TRANSCRIPT_LIMIT) (transcript_one law)

  pub transcript_in_file_quiet : RefusesQuietly (TranscriptInFile files name)
  transcript_in_file_quiet = then_quiet (file_quiet files name TRANSCRIPT_LIMIT) transcript_quiet

-- what is heard is strings of bytes
heard_bytes : (texts : List (List ℕ)) (lines : List TranscriptLine) → AllZip Says texts lines → AllByRecursion IsBytes (arrivals_of lines)
heard_bytes [] [] all = tt
heard_bytes [] (line ∷ lines) all = absurd all
heard_bytes (text ∷ texts) [] all = absurd all
heard_bytes (text ∷ texts) (In arrival ∷ lines) all = ((decode_of-ok all.0.0.0 arrival all.0.0.2).3, heard_bytes texts lines all.1)
heard_bytes (text ∷ texts) (Out message ∷ lines) all = heard_bytes texts lines all.1

pub read_bytes : (text : List ℕ) (lines : List TranscriptLine) → Reads text (Ok lines) → AllByRecursion IsBytes (arrivals_of lines)
read_bytes text lines all = heard_bytes (lines_of text) lines all
