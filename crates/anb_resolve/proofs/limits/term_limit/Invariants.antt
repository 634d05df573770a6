use Rattle.std.proofs.Common.{◌≡◌, ◌≤◌, map, drop}
use Rattle.std.specs.List.{sum_by}
use Rattle.anb_syntax.specs.Views.{tree_of}
use Rattle.anb_protocol.specs.Choices.{first}
use Rattle.anb_protocol.specs.Checks.{above, tree_nodes}
use Rattle.anb_protocol.specs.declared.refusals.Kind.TheVariants.{TermNodes}
use Rattle.anb_protocol.specs.Views.{pointed}
use Rattle.anb_resolve.proofs.limits.term_limit.Given as goal

abbrev pub invariant-loop-term : goal.invariant-loop-term
invariant-loop-term l = record {
  few : sum_by tree_nodes (map tree_of (pointed (drop l.term-index l.terms))) ≤ sum_by tree_nodes (map tree_of (pointed l.terms));
  same : first (λ t. above 1024 TermNodes (tree_nodes t)) (map tree_of (pointed (drop l.term-index l.terms))) ≡ first (λ t. above 1024 TermNodes (tree_nodes t)) (map tree_of (pointed l.terms));
}
