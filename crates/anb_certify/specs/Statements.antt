-- Laws on what is certified.
use Rattle.std.specs.Prelude.{◌≡◌, ◌≢◌, ◌↔◌, ℕ, List, [], length, None}
use Rattle.anb_base.specs.declared.TheConstants.{ARRIVAL, WIDE}
use Rattle.anb_term.specs.Value.{Meaning}
use Rattle.anb_plays.specs.Plans.{Event, known}
use Rattle.anb_plays.specs.Codes.{Act}
use Rattle.anb_plays.specs.Fits.{start, Fits}
use Rattle.anb_plays.specs.Exec.{HasTakes}
use Rattle.anb_code.specs.CodeValue.{CodeValue}
use Rattle.anb_code.specs.Verified.{IsVerifiedCode}
use Rattle.anb_protocol.specs.Protocols.{ProtocolValue}
use Rattle.anb_compile.specs.Fitting.{FollowsRole}
use Rattle.anb_outcomes.specs.declared.certificates.CertifyNo.{CertifyNo}
use Rattle.anb_outcomes.specs.declared.certificates.CertifyNo.TheVariants.{NoMemory}
use Rattle.anb_certify.specs.Along.{Finds}
use Rattle.anb_certify.specs.Certified.{HasFrame, IsCertified, Refuses}

-- a verified code of which nothing is found fits its plan, in all four parts
abbrev pub CertifiedFits : {A : Type 0} → Meaning A → Type 0
CertifiedFits m = (code : List Act) (plan : List Event) → HasTakes m.has code 0 (length (known plan))
    → Finds m code plan (start plan) [] 1 None → Fits m code plan

-- nothing is certified and refused
abbrev pub NoneIsBoth : Type 0
NoneIsBoth = (p : ProtocolValue) (role : ℕ) (code : CodeValue) (no : CertifyNo)
    → IsCertified p role code → Refuses p role code no → no ≡ NoMemory

-- a code has one refusal at most
abbrev pub RefusalsAreUnique : Type 0
RefusalsAreUnique = (p : ProtocolValue) (role : ℕ) (code : CodeValue) (one other : CertifyNo)
    → one ≢ NoMemory → other ≢ NoMemory → Refuses p role code one → Refuses p role code other → one ≡ other

-- A verified code is certified or has a refusal: it can't be that it is neither. (Which of both, `certify` tells)
abbrev pub EachIsEither : Type 0
EachIsEither = (p : ProtocolValue) (role : ℕ) (code : CodeValue) → IsVerifiedCode ARRIVAL WIDE code
    → (IsCertified p role code → ⊥) → ((no : CertifyNo) → no ≢ NoMemory → Refuses p role code no → ⊥) → ⊥

-- A code has the role's frame exactly where it keeps the order of the role's plan. So *Frame* comes
-- exactly where that order is broken.
abbrev pub FramesFollow : Type 0
FramesFollow = (p : ProtocolValue) (role : ℕ) (code : CodeValue) → HasFrame p role code ↔ FollowsRole p role code
