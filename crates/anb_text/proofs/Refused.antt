-- A text has one refusal at most, and none where it spells a code that is accepted.
use Rattle.std.proofs.Common.{◌≡◌, ◌≢◌, ◌⊎◌, Result, Ok, Err, ℕ, List, [], ◌∷◌, refl, sym, ap, subst, inl, inr, ◌∙◌}
use Rattle.std.specs.Prelude.{MatchResult}
use Rattle.std.specs.Result.{IsErrAnd}
use Rattle.anb_base.specs.declared.TheConstants.{ARRIVAL, WIDE}
use Rattle.anb_code.specs.declared.refusal.CodeNo.{CodeNo}
use Rattle.anb_code.specs.CodeValue.{CodeValue}
use Rattle.anb_code.specs.RawValue.{RawValue}
use Rattle.anb_code.specs.Spelling.{raw_of}
use Rattle.anb_code.specs.Table.{IsAccepted, IsFirstFault}
use Rattle.anb_code.proofs.Spelled.{spelled_code}
use Rattle.anb_text.specs.declared.refusal.LoadNo.{LoadNo}
use Rattle.anb_text.specs.declared.refusal.LoadNo.TheVariants.{Line as AtLine, Code, NoMemory}
use Rattle.anb_text.specs.RoleFiles.{file_lines, lines_text}
use Rattle.anb_text.specs.Refusals.{IsFaultyCode, IsFirstFaulty, IsRefusal}
use Rattle.anb_text.specs.Laws.{CodesAreNotRefused, RefusalsAreUnique}
use Rattle.anb_text.specs.Stages.{IsFault, Spells}
use Rattle.anb_text.proofs.Loaded.{file_of, one_raw, spelled_by}
use Rattle.anb_text.proofs.Unique.{faults, files, none}

same_fault : (raw : RawValue) (one other : CodeNo) → IsFirstFault ARRIVAL WIDE raw one → IsFirstFault ARRIVAL WIDE raw other → one ≡ other
same_fault raw one other first also = let same : one ∷ first.0 ≡ other ∷ also.0 = sym first.1 ∙ also.1 in cc

-- a role file has no faulty line
no_line : (text : List ℕ) (n : ℕ) (fault : CodeNo) → IsFirstFaulty text n → IsFaultyCode text fault → ⊥
no_line text n fault line faulty = none faulty.file n faulty.is (subst (λ t. IsFirstFaulty t n) faulty.stands line)

pub once : RefusalsAreUnique
once text (AtLine n) (AtLine m) a b one other = ap AtLine (faults text n m one other)
once text (AtLine n) (Code fault) a b one other = absurd (no_line text n fault one other)
once text (AtLine n) NoMemory a b one other = absurd (b refl)
once text (Code fault) (AtLine n) a b one other = absurd (no_line text n fault other one)
once text (Code fault) (Code also) a b one other =
    let raws = (files one.file other.file one.is other.is (sym one.stands ∙ other.stands)).1 in
    ap Code (same_fault other.is.raw fault also (subst (λ raw. IsFirstFault ARRIVAL WIDE raw fault) raws one.first) other.first)
once text (Code fault) NoMemory a b one other = absurd (b refl)
once text NoMemory other a b one also = absurd (a refl)

-- what a text spells, which is a role file
spelled_so : (text : List ℕ) (fault : CodeNo) → (faulty : IsFaultyCode text fault) → Spells text faulty.is.raw
spelled_so text fault faulty = record {
  v = faulty.is.v;
  suite = faulty.is.suite;
  spellable = faulty.is.spellable;
  stands = faulty.stands ∙ ap lines_text faulty.is.stands;
}

pub not_refused : (text : List ℕ) (raw : RawValue) → Spells text raw → IsAccepted ARRIVAL WIDE raw → (why : LoadNo) → why ≢ NoMemory → IsRefusal text why → ⊥
not_refused text raw s accepted (AtLine n) other line =
    none (file_lines s.v raw) n (file_of text raw s) (subst (λ t. IsFirstFaulty t n) s.stands line)
not_refused text raw s accepted (Code fault) other faulty =
    let first = subst (λ r. IsFirstFault ARRIVAL WIDE r fault) (one_raw text faulty.is.raw raw (spelled_so text fault faulty) s) faulty.first in
    let off : [] ≡ fault ∷ first.0 = sym accepted ∙ first.1 in cc
not_refused text raw s accepted NoMemory other is = other refl

pub code_not_refused : CodesAreNotRefused
code_not_refused text code why verified is = not_refused text (raw_of code) (spelled_by text code is) (spelled_code ARRIVAL WIDE code verified).accepted why

-- what was found is what is due, or want of memory
pub due : (text : List ℕ) (found : LoadNo) → IsRefusal text found → (why : LoadNo) → why ≢ NoMemory → IsRefusal text why → (found ≡ why) ⊎ (found ≡ NoMemory)
due text (AtLine n) is why other refused = inl (once text (AtLine n) why (λ e. cc) other is refused)
due text (Code fault) is why other refused = inl (once text (Code fault) why (λ e. cc) other is refused)
due text NoMemory is why other refused = inr refl

fault_due : (text : List ℕ) (found : LoadNo) → IsFault text found → (why : LoadNo) → why ≢ NoMemory → IsRefusal text why → (found ≡ why) ⊎ (found ≡ NoMemory)
fault_due text (AtLine n) is = due text (AtLine n) is
fault_due text (Code fault) never = absurd never
fault_due text NoMemory is = due text NoMemory tt

pub handed_due : (text : List ℕ) (refusal : LoadNo) (r : Result CodeValue LoadNo) → IsErrAnd r (λ other. other ≡ refusal) → IsFault text refusal
    → (why : LoadNo) → why ≢ NoMemory → IsRefusal text why → MatchResult r (λ c. ⊥) (λ other. (other ≡ why) ⊎ (other ≡ NoMemory))
handed_due text refusal (Ok c) is fault why other refused = absurd is
handed_due text refusal (Err found) is fault why other refused = fault_due text found (subst (IsFault text) (sym is) fault) why other refused
