-- What `certify` writes of a role file.
use Rattle.std.proofs.Common.{◌≡◌, ℕ, List, Option, Some, None, Result, Ok, Err, refl, sym, ap, ◌∙◌, inl, inr}
use Rattle.std.specs.Prelude.{OnOk}
use Rattle.anb_certify.specs.Statements.{NoneIsBoth, RefusalsAreUnique}
use Rattle.anb_code.specs.CodeValue.{CodeValue}
use Rattle.anb_read.specs.Laws as reading
use Rattle.anb_protocol.specs.Protocols.{ProtocolValue}
use Rattle.anb_text.specs.Laws as texts
use Rattle.anb_status.specs.declared.status.Status.{Status}
use Rattle.anb_status.specs.declared.status.Status.TheVariants.{FileFault, NotCertified}
use Rattle.anb_command.specs.Fetches.{Files, IfTold}
use Rattle.anb_command.specs.Files.{CodeInFile, ProtocolInFile}
use Rattle.anb_command.specs.Roles.{RoleIs}
use Rattle.anb_status.specs.Statuses.{OnFileFault}
use Rattle.anb_command.specs.Steps.{Answer, given, refused, HasOneAnswer, IsFailure}
use Rattle.anb_command.specs.Writing.{IsWritten}
use Rattle.anb_command.proofs.Chains.{told_map}
use Rattle.anb_command.proofs.Ones.{RefusesQuietly, code_in_file_one, code_in_file_quiet, narration_in_file_quiet, protocol_in_file_one, protocol_quiet, quiet_as, role_one, role_quiet, then_one, then_quiet}
use Rattle.anb_command.proofs.Preparing.{told_both}
use Rattle.anb_certify_commands.specs.CertifyCommand.{CertificateIs, CertificateOf, CertifyText, IsReadToCertify}

-- ---- one answer

module _ (none : NoneIsBoth) (unique : RefusalsAreUnique) where
  certificate_one : (p : ProtocolValue) (role : ℕ) (code : CodeValue) → HasOneAnswer (CertificateIs p role code)
  certificate_one p role code (refused s) (refused t) (why, is, some, x) (other, js, also, y) = ap refused (is ∙ ap NotCertified (unique p role code why other some also x y) ∙ sym js)
  certificate_one p role code (refused s) (given u) (why, is, some, x) (certificate, e) = absurd (some (none p role code why certificate.certified x))
  certificate_one p role code (given t) (refused s) (certificate, e) (why, is, some, x) = absurd (some (none p role code why certificate.certified x))
  certificate_one p role code (given t) (given u) x y = ap given (x.1 ∙ sym y.1)

  module _ (narrations : reading.NarrationsAreUnique) (refusals : reading.RefusalsAreUnique) (no_text : reading.NoneIsBoth)
      (role_files : texts.FilesAreUnique) (codes : texts.CodesAreUnique) (no_file : texts.NoneIsBoth) (faults : texts.FaultsAreUnique) (narration name file : List ℕ) where
    pub certify_one : (files : Files) → HasOneAnswer (CertifyText files narration name file)
    certify_one files =
        then_one (ProtocolInFile files narration) (CertificateOf files name file) (protocol_in_file_one narrations refusals no_text files narration) (λ p.
        then_one _ _ (role_one p name) (λ role.
        then_one _ _ (code_in_file_one role_files codes no_file faults files file) (certificate_one p role)))

certificate_quiet : (p : ProtocolValue) (role : ℕ) (code : CodeValue) → RefusesQuietly (CertificateIs p role code)
certificate_quiet p role code = record { each = λ s why. quiet_as s _ why.1 (refl, refl) }

pub certify_quiet : (narration name file : List ℕ) (files : Files) → RefusesQuietly (CertifyText files narration name file)
certify_quiet narration name file files =
    then_quiet (then_quiet (narration_in_file_quiet files narration) protocol_quiet) (λ (p : ProtocolValue).
    then_quiet (role_quiet p name) (λ (role : ℕ).
    then_quiet (code_in_file_quiet files file) (λ (code : CodeValue). certificate_quiet p role code)))

-- ---- the chain

module _ (told : Option Files) (narration name file : List ℕ) where
  abbrev Due : Answer (List ℕ) → Type 0
  Due answer = IfTold told (λ files. CertifyText files narration name file answer)

  abbrev IsRead : List ℕ → Type 0
  IsRead each = IfTold told (λ files. IsReadToCertify files narration name file each)

  pub narration_refused : (s : Status) → IfTold told (λ files. ProtocolInFile files narration (refused s)) → Due (refused s)
  narration_refused s first = told_map told (λ files is. inl (s, is, refl)) first

  pub narration_read : (each : List ℕ) → each ≡ narration → IsRead each
  narration_read each is = by told where
    by : (t : Option Files) → IfTold t (λ files. IsReadToCertify files narration name file each)
    by None = tt
    by (Some files) = inl is

  module _ (p : ProtocolValue) (first : IfTold told (λ files. ProtocolInFile files narration (given p))) where
    pub role_refused : (s : Status) → RoleIs p name (refused s) → Due (refused s)
    role_refused s is = told_map told (λ files f. inr (p, f, inl (s, is, refl))) first

    module _ (role : ℕ) (named : RoleIs p name (given role)) where
      pub code_read : (each : List ℕ) → each ≡ file → IsRead each
      code_read each is = told_map told (λ files f. inr (is, (p, role, f, named))) first

      pub code_refused : (s : Status) → IfTold told (λ files. CodeInFile files file (refused s)) → Due (refused s)
      code_refused s next = told_both told (λ files f is. inr (p, f, inr (role, named, inl (s, is, refl)))) first next

      pub code_answers : (code : CodeValue) (answer : Answer (List ℕ)) → IfTold told (λ files. CodeInFile files file (given code)) → CertificateIs p role code answer → Due answer
      code_answers code answer next last = told_both told (λ files f is. inr (p, f, inr (role, named, inr (code, is, last)))) first next

-- ---- faults of files

module _ (told : Option Files) (narration name file : List ℕ) where
  -- a fault of a file comes where that file is read
  pub reads_failed : (s : Status) (Refused : Type 0) → IsFailure s (λ each. IfTold told (λ files. IsReadToCertify files narration name file each)) Refused
      → IfTold told (λ files. OnFileFault s (IsReadToCertify files narration name file))
  reads_failed s Refused fails = by told s fails where
    by : (t : Option Files) (s : Status) → IsFailure s (λ each. IfTold t (λ files. IsReadToCertify files narration name file each)) Refused → IfTold t (λ files. OnFileFault s (IsReadToCertify files narration name file))
    by None s fails = tt
    by (Some files) (FileFault each) fails = fails
    by (Some files) s fails = tt

  -- and none comes where the text is written
  pub reads_written : (text : List ℕ) (s : Status) (w now : Option (List ℕ)) → IsWritten text s w now → IfTold told (λ files. OnFileFault s (IsReadToCertify files narration name file))
  reads_written text s w now is = by told s is where
    by : (t : Option Files) (s : Status) → IsWritten text s w now → IfTold t (λ files. OnFileFault s (IsReadToCertify files narration name file))
    by None s is = tt
    by (Some files) (FileFault each) is = absurd is
    by (Some files) s is = tt

pub on_ok_map : {V E : Type 0} (r : Result V E) (P Q : Type 0) → (P → Q) → OnOk r P → OnOk r Q
on_ok_map (Ok v) P Q f p = f p
on_ok_map (Err e) P Q f p = tt
