-- What is found of the checks of a role: a case, or that all others imply it.
use Rattle.std.specs.Prelude.{◌≡◌, ◌+◌, ◌&&◌, ◌||◌, ℕ, List, [], ◌∷◌, ◌++◌, length, map, Bool, true, false, if◌then◌else◌}
use Rattle.anb_term.specs.Tree.{Tree, trees_of, AreFormed}
use Rattle.anb_term.specs.View.{tree_of}
use Rattle.anb_algebra.specs.ByteMeaning.{has_operator}
use Rattle.anb_plays.specs.Plays.{Played, stopped}
use Rattle.anb_plays.specs.Codes.{Act, takes, draws, receives, sends, works}
use Rattle.anb_code.specs.CodeValue.{CodeValue}
use Rattle.anb_code.specs.Meaning.{acts_of}
use Rattle.anb_protocol.specs.Protocols.{ProtocolValue}
use Rattle.anb_protocol.specs.Plays.{events_of}
use Rattle.anb_unify.specs.Substitutions.{AreNamed}
use Rattle.anb_probe.specs.Cases.{CaseValue, IsCase, IsImplied, is_comparison, less, run_in_terms}
use Rattle.anb_distinguish.specs.Finding.{IsCheck}
use Rattle.anb_suite.specs.Reading.{read_by}
use Rattle.anb_suite.specs.declared.reading.Reading.{Reading}
use Rattle.anb_suite.specs.declared.cases.Case.{Case}
use Rattle.anb_suite.specs.declared.cases.Finding.{Finding}
use Rattle.anb_suite.specs.declared.cases.Finding.TheVariants as finding

-- ---- checks

abbrev pub is_receive : Act → Bool
is_receive receives = true
is_receive takes = false
is_receive draws = false
is_receive (sends r) = false
is_receive (works w) = false

-- the comparisons behind the first arrival, by the numbers of their instructions, where `at` instructions stand before
abbrev pub checks_from : (came : Bool) → (at : ℕ) → List Act → List ℕ
checks_from came at [] = []
checks_from came at (act ∷ acts) = (if came && is_comparison act then (at + 1) ∷ [] else []) ++ checks_from (came || is_receive act) (at + 1) acts

abbrev pub checks_of : List Act → List ℕ
checks_of acts = checks_from false 0 acts

-- the instruction of this number is a comparison
abbrev pub HasCheck : CodeValue → ℕ → Type 0
HasCheck code check = (a b : ℕ) × IsCheck (acts_of code) check a b

-- ---- cases

abbrev pub case_value : Case → CaseValue
case_value case = record {
  arrivals = map tree_of case.arrivals.items;
  wrong = tree_of case.wrong;
  sides = record { one = tree_of case.one; other = tree_of case.other };
}

-- what comes of acts of a role over arrivals, in terms
abbrev pub run_of_role : ProtocolValue → ℕ → List Act → List Tree → Played Tree
run_of_role p role acts arrivals = run_in_terms (has_operator p.formats) (events_of p role) acts arrivals

-- A case of a check of a role's code, as it is read behind it, whose spare name has the number of names. The code itself
-- stops there at this event, and the code as it is read, less the check, sends these messages.
pub record IsCaseOf (p : ProtocolValue) (role : ℕ) (code : CodeValue) (reading : Reading) (check : ℕ) (case : Case) : Type 0 where
  pub a : ℕ
  pub b : ℕ
  pub compares : IsCheck (acts_of code) check a b
  pub number : case.check ≡ check
  pub is : IsCase (has_operator p.formats) (length p.atoms) (events_of p role) (read_by reading check a b (acts_of code)) check (case_value case)
  pub event : (run_of_role p role (acts_of code) (map tree_of case.arrivals.items)).end ≡ stopped case.event check
  pub messages : (run_of_role p role (less check (read_by reading check a b (acts_of code))) (map tree_of case.arrivals.items)).sent ≡ map tree_of case.messages.items
  pub formed : AreFormed (has_operator p.formats) (trees_of (map tree_of case.messages.items))
  pub named : AreNamed (length p.atoms + 1) (trees_of (map tree_of case.messages.items ++ map tree_of case.arrivals.items))

-- as the code is read, its other checks imply this one
pub record IsImpliedAs (p : ProtocolValue) (role : ℕ) (code : CodeValue) (reading : Reading) (check : ℕ) : Type 0 where
  pub a : ℕ
  pub b : ℕ
  pub compares : IsCheck (acts_of code) check a b
  pub is : IsImplied (has_operator p.formats) (events_of p role) (read_by reading check a b (acts_of code)) check

abbrev pub IsFinding : ProtocolValue → ℕ → CodeValue → Reading → ℕ → Finding → Type 0
IsFinding p role code reading check (finding.Case case) = IsCaseOf p role code reading check case
IsFinding p role code reading check finding.Implied = IsImpliedAs p role code reading check
