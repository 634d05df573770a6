-- What `certify` does: it certifies the code of a role file for a role.
use Rattle.std.specs.Prelude.{◌≡◌, ◌≢◌, ◌⊎◌, ℕ, List, codes, Option}
use Rattle.anb_base.specs.Wires.{WireState}
use Rattle.anb_certify.specs.Certified.{IsCertified, Refuses}
use Rattle.anb_outcomes.specs.declared.certificates.CertifyNo.{CertifyNo}
use Rattle.anb_outcomes.specs.declared.certificates.CertifyNo.TheVariants as refusal
use Rattle.anb_code.specs.CodeValue.{CodeValue}
use Rattle.anb_compile.specs.Fitting.{FitsRole}
use Rattle.anb_compile.specs.Laws.{FittingCodesPlay}
use Rattle.anb_protocol.specs.Protocols.{ProtocolValue}
use Rattle.anb_status.specs.declared.status.Status.{Status}
use Rattle.anb_status.specs.declared.status.Status.TheVariants.{NotCertified}
use Rattle.anb_command.specs.Fetches.{Files, IfTold}
use Rattle.anb_command.specs.Files.{CodeInFile, ProtocolInFile}
use Rattle.anb_command.specs.Roles.{RoleIs}
use Rattle.anb_status.specs.Statuses.{OnFileFault}
use Rattle.anb_command.specs.Steps.{Answer, refused, given, InTurn}
use Rattle.anb_command.specs.Writing.{CompletesText, IsWritingOne}

-- The code is certified for the role. So it fits in all four parts, and its run is the role's play, and
-- the only one.
pub record IsCertificate (p : ProtocolValue) (role : ℕ) (code : CodeValue) : Type 0 where
  pub certified : IsCertified p role code
  pub fits : FitsRole p role code
  pub plays : FittingCodesPlay p

-- the certificate of a code, or why it has none
abbrev pub CertificateIs : ProtocolValue → ℕ → CodeValue → Answer (List ℕ) → Type 0
CertificateIs p role code (refused status) =
    (why : CertifyNo) × (status ≡ NotCertified why) × (why ≢ refusal.NoMemory) × Refuses p role code why
CertificateIs p role code (given text) = IsCertificate p role code × (text ≡ codes "certified\n")

module _ (files : Files) where
  -- for the role of this name, and the code in a role file
  abbrev pub CertificateOf : (name file : List ℕ) → ProtocolValue → Answer (List ℕ) → Type 0
  CertificateOf name file p =
      InTurn (RoleIs p name) (λ role. InTurn (CodeInFile files file) (CertificateIs p role))

  -- the same, of the protocol in a narration's file
  abbrev pub CertifyText : (narration name file : List ℕ) → Answer (List ℕ) → Type 0
  CertifyText narration name file =
      InTurn (ProtocolInFile files narration) (CertificateOf name file)

  -- a file is read: the narration's, and behind it, where it has a role of this name, the role file
  abbrev pub IsReadToCertify : (narration name file : List ℕ) → List ℕ → Type 0
  IsReadToCertify narration name file each =
      (each ≡ narration)
      ⊎ ((each ≡ file) × ((p : ProtocolValue) × (role : ℕ)
      × ProtocolInFile files narration (given p) × RoleIs p name (given role)))

module _ (narration name file : List ℕ) (told : Option Files) where
  pub record DoesCertify (old new : WireState) (status : Status) : Type 0 where
    pub writes : IfTold told (λ files.
        IsWritingOne (CertifyText files narration name file) status old.written new.written)
    -- a fault of a file comes only where that file is read
    pub reads : IfTold told (λ files.
        OnFileFault status (IsReadToCertify files narration name file))

  abbrev pub CompletesCertify : Status → Type 0
  CompletesCertify status =
      IfTold told (λ files. CompletesText (CertifyText files narration name file) status)
