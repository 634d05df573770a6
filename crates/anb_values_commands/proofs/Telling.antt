-- What is written where one text is due, by the files that are told.
use Rattle.std.proofs.Common.{◌≡◌, ℕ, true, List, Option}
use Rattle.anb_status.specs.declared.status.Status.{Status}
use Rattle.anb_status.specs.declared.status.Status.TheVariants.{NoMemory}
use Rattle.anb_command.specs.Fetches.{Files, IfTold}
use Rattle.anb_status.specs.Statuses.{is_fault}
use Rattle.anb_command.specs.Steps.{Answer, given, refused, HasOneAnswer, IsFailure}
use Rattle.anb_command.specs.Writing.{CompletesText, IsWriting, IsWritingOne, IsWritten}
use Rattle.anb_command.proofs.Chains.{told_map}
use Rattle.anb_command.proofs.Ones.{IsSettled, RefusesQuietly, one_settled}
use Rattle.anb_command.proofs.Written.{completes_text, the_one, told_refusal, told_written}

module _ (Due : Files → Answer (List ℕ) → Type 0) (told : Option Files) where
  module _ (one : (files : Files) → HasOneAnswer (Due files)) (quiet : (files : Files) → RefusesQuietly (Due files)) where
    settled : (files : Files) → IsSettled (Due files)
    settled files = one_settled (Due files) (one files)

    as_one : (w now : Option (List ℕ)) (s : Status) → IfTold told (λ files. IsWriting (Due files) s w now) → IfTold told (λ files. IsWritingOne (Due files) s w now)
    as_one w now s is = told_map told (λ files writing. the_one (Due files) (one files) w now s writing) is

    pub writes_one : (w now : Option (List ℕ)) (text : List ℕ) (s : Status) → IfTold told (λ files. Due files (given text)) → IsWritten text s w now
        → IfTold told (λ files. IsWritingOne (Due files) s w now)
    writes_one w now text s due is = as_one w now s (told_written Due settled quiet told w now text s due is)

    pub refuses_one : (w : Option (List ℕ)) (s : Status) (P : List ℕ → Type 0) → IsFailure s P (IfTold told (λ files. Due files (refused s)))
        → IfTold told (λ files. IsWritingOne (Due files) s w w)
    refuses_one w s P fails = as_one w w s (told_refusal Due settled quiet told w s P fails)

  -- where nothing failed
  pub completes_one : (w now : Option (List ℕ)) (s : Status) → IfTold told (λ files. IsWritingOne (Due files) s w now)
      → (is_fault s ≡ true → s ≡ NoMemory) → IfTold told (λ files. CompletesText (Due files) s)
  completes_one w now s does only_memory = told_map told (λ files is. completes_text (Due files) w now s is.writes only_memory) does
