-- What `judge` does: a transcript of a role is judged by somebody who sees it, whatever the role drew.
use Rattle.std.specs.Prelude.{◌≡◌, ◌≢◌, ◌⊎◌, ℕ, false, List, [], Option, Some, None}
use Rattle.std.specs.List.{position_from}
use Rattle.anb_base.specs.Wires.{WireState}
use Rattle.anb_honest.specs.Joint.{cast, init_of, is_long}
use Rattle.anb_judge.specs.Verdicts.{Judged, Judges, line_bytes}
use Rattle.anb_protocol.specs.Texts.{known_names, known_texts}
use Rattle.anb_transcript.specs.declared.following.ReplayEnd.{ReplayEnd}
use Rattle.anb_transcript.specs.declared.following.ReplayEnd.TheVariants as replayed
use Rattle.anb_transcript.specs.declared.transcript.TranscriptLine.{TranscriptLine}
use Rattle.anb_values.specs.declared.refusal.ValuesNo.TheVariants.{Long}
use Rattle.anb_values_commands.specs.RoleValuesCommand.{first_long}
use Rattle.anb_status.specs.declared.status.Status.{Status}
use Rattle.anb_status.specs.declared.status.Status.TheVariants.{BadTranscript, BadValues, Done, ReadFault, WriteFault, NoMemory}
use Rattle.anb_status.specs.Statuses.{OnUnreached, is_fault}
use Rattle.anb_command.specs.Fetches.{Files, IfTold}
use Rattle.anb_command.specs.Files.{TranscriptInFile, ValuesInFile}
use Rattle.anb_command.specs.Refusing.{IsRefusing}
use Rattle.anb_command.specs.Roles.{Part, PartInFile}
use Rattle.anb_command.specs.Steps.{Answer, refused, given, InTurn, AnswersWith}
use Rattle.anb_role_commands.specs.ReplayCommand.{OnlyReaches, status_of}

-- ---- what the role begins with

-- the values with which the role begins a rehearsal with these values of names
abbrev pub initial_of : Part → List (List ℕ) → List (List ℕ)
initial_of part values = init_of (cast part.protocol [] values []) part.role

-- these values; a long one is refused as `values` refuses it
abbrev pub InitialIs : Part → List (List ℕ) → Answer (List (List ℕ)) → Type 0
InitialIs part values (refused status) =
    (label : List ℕ) × (status ≡ BadValues (Long label))
    × (first_long (known_texts part.protocol part.role) (initial_of part values) ≡ Some label)
InitialIs part values (given initial) =
    (first_long (known_texts part.protocol part.role) (initial_of part values) ≡ None)
    × (initial ≡ initial_of part values)

-- ---- the transcript

-- the number of the first line that is longer than an arrival may be, whichever way it goes
abbrev pub long_line : List TranscriptLine → Option ℕ
long_line lines = position_from (λ line. is_long (line_bytes line)) 1 lines

-- these lines, of which none may be so long
abbrev pub LinesAre : List TranscriptLine → Answer (List TranscriptLine) → Type 0
LinesAre lines (refused status) = (n : ℕ) × (status ≡ BadTranscript n) × (long_line lines ≡ Some n)
LinesAre lines (given others) = (long_line lines ≡ None) × (others ≡ lines)

-- ---- what is asked

module _ (files : Files) where
  abbrev pub InitialInFile : (values : List ℕ) → Part → Answer (List (List ℕ)) → Type 0
  InitialInFile values part =
      InTurn (ValuesInFile files values (known_names part.protocol)) (λ fitted. InitialIs part fitted.values)

  abbrev pub LinesInFile : (transcript : List ℕ) → Answer (List TranscriptLine) → Type 0
  LinesInFile transcript = InTurn (TranscriptInFile files transcript) LinesAre

module _ (narration name values transcript : List ℕ) where
  -- What is asked, or the first refusal: of the narration, of the role, of the messages of all roles, of
  -- the values, or of the transcript.
  abbrev pub JudgementIs : Files → Answer Judged → Type 0
  JudgementIs files =
      InTurn (PartInFile files narration name) (λ part.
      InTurn (InitialInFile files values part) (λ initial.
      InTurn (LinesInFile files transcript) (λ lines.
      AnswersWith (record { protocol = part.protocol; role = part.role; initial = initial; lines = lines }))))

  -- The narration file is read; where it has the role, and all can send, the values file; and where
  -- these are right, the transcript.
  abbrev pub IsReadToJudge : Files → List ℕ → Type 0
  IsReadToJudge files file =
      (file ≡ narration)
      ⊎ (((file ≡ values) × ((part : Part) × PartInFile files narration name (given part)))
      ⊎ ((file ≡ transcript) × ((part : Part) × (initial : List (List ℕ))
      × PartInFile files narration name (given part) × InitialInFile files values part (given initial))))

  -- the status where no fault comes: that of a refusal, or of a judgement
  abbrev pub JudgeOutcome : Files → Status → Type 0
  JudgeOutcome files status =
      JudgementIs files (refused status)
      ⊎ ((asked : Judged) × (end : ReplayEnd) × JudgementIs files (given asked) × (end ≢ replayed.NoMemory)
      × Judges asked end × (status ≡ status_of end))

  module _ (told : Option Files) where
    pub record DoesJudge (old new : WireState) (status : Status) : Type 0 where
      pub refuses : IfTold told (λ files. IsRefusing (JudgementIs files) (IsReadToJudge files) status)
      -- the status is an outcome, and each outcome is the status
      pub is : IfTold told (λ files. is_fault status ≡ false → JudgeOutcome files status)
      pub only : IfTold told (λ files.
          is_fault status ≡ false → (due : Status) → JudgeOutcome files due → status ≡ due)
      -- the place is tried only where there is something to judge
      pub unreached : IfTold told (λ files.
          OnUnreached status (λ _. (asked : Judged) × JudgementIs files (given asked)))
      -- whatever the status
      pub only_reaches : OnlyReaches old new
      pub no_read_fault : status ≢ ReadFault
      pub no_write_fault : status ≢ WriteFault

    -- where nothing failed and no other outcome is there, it is done, or memory was wanting
    abbrev pub CompletesJudge : Status → Type 0
    CompletesJudge status =
        IfTold told (λ files. ((due : Status) → JudgeOutcome files due → due ≡ Done)
        → (status ≡ Done) ⊎ (status ≡ NoMemory))
