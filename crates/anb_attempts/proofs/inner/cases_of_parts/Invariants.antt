use Rattle.std.proofs.Common.{◌≡◌, ◌++◌, List, map}
use Rattle.std.specs.List.{AllZip}
use Rattle.anb_term.specs.View.{tree_of}
use Rattle.anb_attempts.specs.Inner.{InnerValue, IsWithin, few_within}
use Rattle.anb_attempts.specs.Parts.{inner_value}
use Rattle.anb_attempts.proofs.inner.cases_of_parts.Given as goal

abbrev pub invariant-loop-inner : goal.invariant-loop-inner
invariant-loop-inner l =
    (done : List InnerValue) × (few_within l.spare (tree_of l.case.wrong) ≡ done ++ map inner_value l.inner-iterator.rest.items)
    × AllZip (IsWithin l.spare l.case) done l.cases.items
