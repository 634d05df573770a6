-- The files that a command reads, and what they hold.
use Rattle.std.specs.Prelude.{◌≡◌, ◌≢◌, ℕ, ◌<◌, ◌≤◌, List, length, Option, Some, None, Ok, Err}
use Rattle.anb_base.specs.declared.TheConstants.{ARRIVAL, WIDE}
use Rattle.anb_syntax.specs.Grammar.{Narration}
use Rattle.anb_syntax.specs.Text.{Text}
use Rattle.anb_read.specs.Refusals.{IsRefusal}
use Rattle.anb_read.specs.declared.refusal.ReadNo.{ReadNo}
use Rattle.anb_protocol.specs.Checks.{fault}
use Rattle.anb_protocol.specs.Protocols.{ProtocolValue, protocol_of}
use Rattle.anb_protocol.specs.declared.refusals.ResolveNo.{ResolveNo}
use Rattle.anb_code.specs.CodeValue.{CodeValue}
use Rattle.anb_code.specs.Verified.{IsVerifiedCode}
use Rattle.anb_text.specs.Refusals.{IsRefusal as IsLoadRefusal}
use Rattle.anb_text.specs.RoleFiles.{IsTextOf}
use Rattle.anb_text.specs.declared.refusal.LoadNo.{LoadNo}
use Rattle.anb_text.specs.declared.refusal.LoadNo.TheVariants as loading
use Rattle.anb_transcript.specs.Texts.{Reads}
use Rattle.anb_transcript.specs.declared.transcript.TranscriptLine.{TranscriptLine}
use Rattle.anb_transcript.specs.declared.transcript.TranscriptNo.TheVariants.{Line}
use Rattle.anb_values.specs.Fit.{Fit}
use Rattle.anb_values.specs.declared.fitted.Fitted.{Fitted}
use Rattle.anb_values.specs.declared.refusal.ValuesNo.{ValuesNo}
use Rattle.anb_command.specs.declared.limits.TheConstants.{NARRATION_LIMIT, ROLE_FILE_LIMIT, TRANSCRIPT_LIMIT, VALUES_LIMIT}
use Rattle.anb_status.specs.declared.status.NarrationNo.TheVariants.{Read, Resolve}
use Rattle.anb_status.specs.declared.status.Status.TheVariants.{FileLong, BadNarration, BadValues, BadRoleFile, BadTranscript}
use Rattle.anb_command.specs.Steps.{Answer, refused, given, InTurn}

-- a file of at most so many bytes
pub record HasFile (files : List ℕ → Option (List ℕ)) (name : List ℕ) (limit : ℕ) (text : List ℕ) : Type 0 where
  pub holds : files name ≡ Some text
  pub short : length text ≤ limit

-- a file of more bytes
pub record HasLonger (files : List ℕ → Option (List ℕ)) (name : List ℕ) (limit : ℕ) : Type 0 where
  pub text : List ℕ
  pub holds : files name ≡ Some text
  pub long : limit < length text

-- the content of a file, which has at most so many bytes
abbrev pub FileIs : (List ℕ → Option (List ℕ)) → List ℕ → ℕ → Answer (List ℕ) → Type 0
FileIs files name limit (refused status) = (status ≡ FileLong name) × HasLonger files name limit
FileIs files name limit (given text) = HasFile files name limit text

-- the narration that a text is, by the grammar
abbrev pub NarrationIs : List ℕ → Answer Narration → Type 0
NarrationIs text (refused status) = (why : ReadNo) × (status ≡ BadNarration (Read why)) × IsRefusal text why
NarrationIs text (given n) = Text n text

-- the protocol that a narration tells, where it is well formed
abbrev pub ProtocolIs : Narration → Answer ProtocolValue → Type 0
ProtocolIs n (refused status) = (why : ResolveNo) × (status ≡ BadNarration (Resolve why)) × (fault ARRIVAL WIDE n ≡ Some why)
ProtocolIs n (given p) = (fault ARRIVAL WIDE n ≡ None) × (p ≡ protocol_of n)

-- the code that a role file is the text of, which is verified
abbrev pub CodeIs : List ℕ → Answer CodeValue → Type 0
CodeIs text (refused status) = (why : LoadNo) × (status ≡ BadRoleFile why) × (why ≢ loading.NoMemory) × IsLoadRefusal text why
CodeIs text (given code) = IsVerifiedCode ARRIVAL WIDE code × IsTextOf text code

-- the lines of a transcript, or the first that isn't of its grammar
abbrev pub TranscriptIs : List ℕ → Answer (List TranscriptLine) → Type 0
TranscriptIs text (refused status) = (n : ℕ) × (status ≡ BadTranscript n) × Reads text (Err (Line n))
TranscriptIs text (given lines) = Reads text (Ok lines)

-- the values that a text gives to some names, and the seed where it has one
abbrev pub ValuesAre : List (List ℕ) → List ℕ → Answer Fitted → Type 0
ValuesAre names text (refused status) = (why : ValuesNo) × (status ≡ BadValues why) × Fit text names (Err why)
ValuesAre names text (given fitted) = Fit text names (Ok fitted)

module _ (files : List ℕ → Option (List ℕ)) (name : List ℕ) where
  abbrev pub NarrationInFile : Answer Narration → Type 0
  NarrationInFile = InTurn (FileIs files name NARRATION_LIMIT) NarrationIs

  abbrev pub ProtocolInFile : Answer ProtocolValue → Type 0
  ProtocolInFile = InTurn NarrationInFile ProtocolIs

  abbrev pub CodeInFile : Answer CodeValue → Type 0
  CodeInFile = InTurn (FileIs files name ROLE_FILE_LIMIT) CodeIs

  abbrev pub TranscriptInFile : Answer (List TranscriptLine) → Type 0
  TranscriptInFile = InTurn (FileIs files name TRANSCRIPT_LIMIT) TranscriptIs

  abbrev pub ValuesInFile : List (List ℕ) → Answer Fitted → Type 0
  ValuesInFile names = InTurn (FileIs files name VALUES_LIMIT) (ValuesAre names)
