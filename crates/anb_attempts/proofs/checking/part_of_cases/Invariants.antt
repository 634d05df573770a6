use Rattle.std.proofs.Common.{◌++◌, ◌∷◌, List, length}
use Rattle.anb_suite.specs.declared.cases.Case.{Case}
use Rattle.anb_suite.specs.declared.reading.Reading.TheVariants.{Both}
use Rattle.anb_attempts.specs.Attempts.{ComesOf, IsPartOfCase}
use Rattle.anb_attempts.specs.Inner.{AreWithin}
use Rattle.anb_attempts.specs.Parts.{part_value}
use Rattle.anb_attempts.proofs.checking.part_of_cases.Given as goal

abbrev pub invariant-loop-inner : goal.invariant-loop-inner
invariant-loop-inner l =
    (done : List Case)
    × AreWithin l.p (length l.p.atoms) l.fn.case (done ++ l.inner-iterator.rest.items)
    × ComesOf (IsPartOfCase l.p l.role Both l.changes) l.scene (l.fn.case ∷ done) (part_value l.part)
