-- What holds of role files whatever they say.
use Rattle.std.specs.Prelude.{◌≡◌, ◌≢◌, ◌⊎◌, ◌≤◌, ℕ, List, length}
use Rattle.anb_base.specs.declared.TheConstants.{ARRIVAL, LARGE_FILE, WIDE}
use Rattle.anb_code.specs.CodeValue.{CodeValue}
use Rattle.anb_code.specs.Verified.{IsVerifiedCode}
use Rattle.anb_text.specs.declared.lines.Line.{Line}
use Rattle.anb_text.specs.declared.refusal.LoadNo.{LoadNo}
use Rattle.anb_text.specs.declared.refusal.LoadNo.TheVariants.{NoMemory}
use Rattle.anb_text.specs.RoleFiles.{IsRoleFile, IsTextOf, lines_text}
use Rattle.anb_text.specs.Refusals.{IsFirstFaulty, IsRefusal}

-- two role files with one text have the same lines, and so spell the same code, in the same version
abbrev pub FilesAreUnique : Type 0
FilesAreUnique = (one other : List Line) (is : IsRoleFile one) (also : IsRoleFile other) → lines_text one ≡ lines_text other
    → (one ≡ other) × (is.raw ≡ also.raw)

-- a role file has no faulty line
abbrev pub NoneIsBoth : Type 0
NoneIsBoth = (lines : List Line) (n : ℕ) → IsRoleFile lines → IsFirstFaulty (lines_text lines) n → ⊥

-- a text has one first faulty line at most
abbrev pub FaultsAreUnique : Type 0
FaultsAreUnique = (text : List ℕ) (n m : ℕ) → IsFirstFaulty text n → IsFirstFaulty text m → n ≡ m

-- two verified codes with a text in common are the same
abbrev pub CodesAreUnique : Type 0
CodesAreUnique = (text : List ℕ) (one other : CodeValue) → IsVerifiedCode ARRIVAL WIDE one → IsVerifiedCode ARRIVAL WIDE other
    → IsTextOf text one → IsTextOf text other → one ≡ other

-- a text has one refusal at most, but for want of memory
abbrev pub RefusalsAreUnique : Type 0
RefusalsAreUnique = (text : List ℕ) (one other : LoadNo) → one ≢ NoMemory → other ≢ NoMemory
    → IsRefusal text one → IsRefusal text other → one ≡ other

-- no text of a verified code is refused, but for want of memory
abbrev pub CodesAreNotRefused : Type 0
CodesAreNotRefused = (text : List ℕ) (code : CodeValue) (no : LoadNo) → IsVerifiedCode ARRIVAL WIDE code → IsTextOf text code
    → no ≢ NoMemory → IsRefusal text no → ⊥

-- each text that isn't too long is that of a verified code, or has a refusal other than want of memory
abbrev pub EachIsEither : Type 0
EachIsEither = (text : List ℕ) → length text ≤ LARGE_FILE
    → ((code : CodeValue) × IsVerifiedCode ARRIVAL WIDE code × IsTextOf text code) ⊎ ((no : LoadNo) × (no ≢ NoMemory) × IsRefusal text no)
