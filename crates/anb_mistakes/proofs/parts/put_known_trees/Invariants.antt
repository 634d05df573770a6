use Rattle.std.proofs.Common.{◌≡◌, ◌++◌, map, drop}
use Rattle.std.specs.List.{flat_map}
use Rattle.anb_syntax.specs.Grammar.{KnowItem, list_of}
use Rattle.anb_syntax.specs.Views.{tree_of, know_of}
use Rattle.anb_protocol.specs.Views.{pointed}
use Rattle.anb_mistakes.proofs.parts.put_known_trees.Given as goal

abbrev pub invariant-loop-item : goal.invariant-loop-item
invariant-loop-item l = map tree_of (pointed l.out.items) ++ flat_map (λ (k : KnowItem). list_of k.terms) (map know_of (drop l.item-index l.knows.items)) ≡ map tree_of (pointed l.initial.out.items) ++ flat_map (λ (k : KnowItem). list_of k.terms) (map know_of l.knows.items)
