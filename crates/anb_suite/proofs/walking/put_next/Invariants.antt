use Rattle.std.proofs.Common.{◌≡◌, ◌+◌, ◌++◌, map}
use Rattle.std.specs.List.{range_with_len}
use Rattle.anb_term.specs.Tree.{leaf}
use Rattle.anb_term.specs.View.{tree_of}
use Rattle.anb_suite.proofs.walking.put_next.Given as goal

abbrev pub invariant-loop-part : goal.invariant-loop-part
invariant-loop-part l = map tree_of l.terms.items ≡ map tree_of l.initial.terms.items ++ map (λ r. leaf (l.names + r)) (range_with_len l.first l.part)
