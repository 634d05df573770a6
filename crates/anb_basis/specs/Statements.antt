-- What the checks of entries say, in any algebra.
use Rattle.std.specs.Prelude.{List, IsTrue}
use Rattle.anb_term.specs.Tree.{trees_of, AreFormed}
use Rattle.anb_term.specs.Value.{Meaning}
use Rattle.anb_term.specs.Lawful.{AreValues}
use Rattle.anb_term.specs.FreeAlgebra.{terms_over}
use Rattle.anb_term.specs.Agree.{Agree}
use Rattle.anb_term.specs.Demand.{all_hold, Suffices}
use Rattle.anb_close.specs.declared.entry.Entry.{Entry}
use Rattle.anb_close.specs.Entries.{labels_of}
use Rattle.anb_basis.specs.declared.check.Check.{Check}
use Rattle.anb_basis.specs.Checks.{demands_of}

module _ {A : Type 0} (m : Meaning A) (es : List Entry) (cs : List Check) where
  -- where all the checks hold, the labels' values agree with their terms
  abbrev pub AreEnough : Type 0
  AreEnough = AreFormed m.has (trees_of (labels_of es)) → Suffices m (labels_of es) (demands_of es cs)

  -- where the labels' values agree with their terms, all the checks hold
  abbrev pub AreJustified : Type 0
  AreJustified = AreFormed m.has (trees_of (labels_of es)) → (vs : List A) → AreValues m vs → Agree m (labels_of es) vs → IsTrue (all_hold m vs (demands_of es cs))

  -- all the checks hold of the labels' terms
  abbrev pub AreTrueInTerms : Type 0
  AreTrueInTerms = AreFormed m.has (trees_of (labels_of es)) → IsTrue (all_hold (terms_over m.has) (labels_of es) (demands_of es cs))
