use Rattle.std.proofs.Common.{◌≡◌, ◌+◌, map, drop}
use Rattle.std.specs.List.{sum_by}
use Rattle.anb_syntax.specs.Views.{tree_of}
use Rattle.anb_protocol.specs.Checks.{tree_nodes}
use Rattle.anb_protocol.specs.Views.{pointed}
use Rattle.anb_resolve.proofs.limits.all_nodes.Given as goal

abbrev pub invariant-loop-term : goal.invariant-loop-term
invariant-loop-term l = l.count + sum_by tree_nodes (map tree_of (pointed (drop l.term-index l.terms))) ≡ sum_by tree_nodes (map tree_of (pointed l.terms))
