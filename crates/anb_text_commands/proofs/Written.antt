-- What is written by `help`, `fmt`, `compile` and `explain`, and of pages.
use Rattle.std.proofs.Common.{◌≡◌, ℕ, true, List, Option, take, refl, sym, inr, ◌∙◌}
use Rattle.anb_read.specs.Laws.{NarrationsAreUnique, RefusalsAreUnique, NoneIsBoth}
use Rattle.anb_status.specs.declared.status.Status.{Status}
use Rattle.anb_command.specs.Fetches.{Files, IfTold}
use Rattle.anb_command.specs.Files.{NarrationInFile}
use Rattle.anb_command.specs.Roles.{Part, PartInFile}
use Rattle.anb_status.specs.Statuses.{is_fault}
use Rattle.anb_command.specs.Steps.{refused, given, AnswersWith, HasOneAnswer, IsFailure}
use Rattle.anb_command.specs.Writing.{IsWriting, IsWritingOne, IsWritten}
use Rattle.anb_status.specs.declared.status.Status.TheVariants.{Done, NoMemory, Unreached, WriteFault}
use Rattle.anb_words.specs.declared.words.RoleText.{RoleText}
use Rattle.anb_command.proofs.Chains.{told_map}
use Rattle.anb_command.proofs.Ones.{IsSettled, RefusesQuietly, one_settled, then_one, then_settled, then_quiet, is_quiet, narration_in_file_one, narration_in_file_quiet, part_one, part_quiet}
use Rattle.anb_command.proofs.Written.{completes_text, faulty, the_one, written, told_written, told_refusal}
use Rattle.anb_text_commands.specs.TextCommands.{CanonicalOf, CompletesDescribe, CompletesFmt, FmtText, Describes, DescribedText, HelpText, IsWrittenByLines, help_text}

-- ---- one text, whatever the files

module _ (text : List ℕ) where
  text_one : HasOneAnswer (AnswersWith text)
  text_one x y is js = is ∙ sym js

  pub writes_text : (w now : Option (List ℕ)) (s : Status) → IsWritten text s w now → IsWritingOne (AnswersWith text) s w now
  writes_text w now s is = the_one (AnswersWith text) text_one w now s (written (AnswersWith text) (one_settled (AnswersWith text) text_one) w now text s refl is)

pub writes_help : (w now : Option (List ℕ)) (s : Status) → IsWritten help_text s w now → IsWritingOne HelpText s w now
writes_help w now s is = writes_text help_text w now s is

-- ---- commands whose text comes of files

module _ (narrations : NarrationsAreUnique) (refusals : RefusalsAreUnique) (none : NoneIsBoth) (files : Files) where
  pub fmt_one : (name : List ℕ) → HasOneAnswer (FmtText files name)
  fmt_one name = then_one (NarrationInFile files name) CanonicalOf (narration_in_file_one narrations refusals none files name) (λ n x y is js. is ∙ sym js)

  pub described_settled : (kind : RoleText) (narration name : List ℕ) → IsSettled (DescribedText kind files narration name)
  described_settled kind narration name =
      then_settled (PartInFile files narration name) (Describes kind) (part_one narrations refusals none files narration name) (λ part. record { refuses = λ s t never. absurd never; apart = λ s text never. absurd never })

module _ (files : Files) where
  pub fmt_quiet : (name : List ℕ) → RefusesQuietly (FmtText files name)
  fmt_quiet name = then_quiet (narration_in_file_quiet files name) (λ n. is_quiet _)

  pub described_quiet : (kind : RoleText) (narration name : List ℕ) → RefusesQuietly (DescribedText kind files narration name)
  described_quiet kind narration name = then_quiet (part_quiet files narration name) (λ (part : Part). record { each = λ s never. absurd never })

module _ (narrations : NarrationsAreUnique) (refusals : RefusalsAreUnique) (none : NoneIsBoth) (told : Option Files) (narration : List ℕ) where
  -- ---- `fmt`

  as_fmt : (w now : Option (List ℕ)) (s : Status) → IfTold told (λ files. IsWriting (FmtText files narration) s w now) → IfTold told (λ files. IsWritingOne (FmtText files narration) s w now)
  as_fmt w now s is = told_map told (λ files writing. the_one (FmtText files narration) (fmt_one narrations refusals none files narration) w now s writing) is

  fmt_settled : (files : Files) → IsSettled (FmtText files narration)
  fmt_settled files = one_settled (FmtText files narration) (fmt_one narrations refusals none files narration)

  pub writes_fmt : (w now : Option (List ℕ)) (text : List ℕ) (s : Status) → IfTold told (λ files. FmtText files narration (given text)) → IsWritten text s w now
      → IfTold told (λ files. IsWritingOne (FmtText files narration) s w now)
  writes_fmt w now text s due is = as_fmt w now s (told_written (λ files. FmtText files narration) fmt_settled (λ files. fmt_quiet files narration) told w now text s due is)

  pub refuses_fmt : (w : Option (List ℕ)) (s : Status) (P : List ℕ → Type 0) → IsFailure s P (IfTold told (λ files. FmtText files narration (refused s)))
      → IfTold told (λ files. IsWritingOne (FmtText files narration) s w w)
  refuses_fmt w s P fails = as_fmt w w s (told_refusal (λ files. FmtText files narration) fmt_settled (λ files. fmt_quiet files narration) told w s P fails)

  -- ---- `compile` and `explain`

  module _ (kind : RoleText) (name : List ℕ) where
    settled : (files : Files) → IsSettled (DescribedText kind files narration name)
    settled files = described_settled narrations refusals none files kind narration name

    pub writes_described : (w now : Option (List ℕ)) (text : List ℕ) (s : Status) → IfTold told (λ files. DescribedText kind files narration name (given text)) → IsWritten text s w now
        → IfTold told (λ files. IsWriting (DescribedText kind files narration name) s w now)
    writes_described w now text s due is =
        told_written (λ files. DescribedText kind files narration name) settled (λ files. described_quiet files kind narration name) told w now text s due is

    pub writes_by_lines : (w now : Option (List ℕ)) (text : List ℕ) (s : Status) → IfTold told (λ files. DescribedText kind files narration name (given text)) → IsWrittenByLines text s w now
        → IfTold told (λ files. IsWriting (DescribedText kind files narration name) s w now)
    writes_by_lines w now text NoMemory due (n, within, put) =
        told_map told (λ files d. record { is = faulty; only = faulty; cut_short = λ _. (take n text, inr (text, d, (n, refl)), put) }) due
    writes_by_lines w now text Done due is = writes_described w now text Done due is
    writes_by_lines w now text WriteFault due is = writes_described w now text WriteFault due is
    writes_by_lines w now text (Unreached at) due is = writes_described w now text (Unreached at) due is
    writes_by_lines w now text _ due never = absurd never

    pub refuses_described : (w : Option (List ℕ)) (s : Status) (P : List ℕ → Type 0) → IsFailure s P (IfTold told (λ files. DescribedText kind files narration name (refused s)))
        → IfTold told (λ files. IsWriting (DescribedText kind files narration name) s w w)
    refuses_described w s P fails = told_refusal (λ files. DescribedText kind files narration name) settled (λ files. described_quiet files kind narration name) told w s P fails

-- ---- where nothing failed

pub completes_fmt : (told : Option Files) (narration : List ℕ) (w now : Option (List ℕ)) (s : Status) → IfTold told (λ files. IsWritingOne (FmtText files narration) s w now)
    → (is_fault s ≡ true → s ≡ NoMemory) → CompletesFmt narration told s
completes_fmt told narration w now s does only_memory = told_map told (λ files one. completes_text (FmtText files narration) w now s one.writes only_memory) does

pub completes_described : (told : Option Files) (kind : RoleText) (narration name : List ℕ) (w now : Option (List ℕ)) (s : Status) → IfTold told (λ files. IsWriting (DescribedText kind files narration name) s w now)
    → (is_fault s ≡ true → s ≡ NoMemory) → CompletesDescribe kind narration name told s
completes_described told kind narration name w now s does only_memory = told_map told (λ files writing. completes_text (DescribedText kind files narration name) w now s writing only_memory) does
