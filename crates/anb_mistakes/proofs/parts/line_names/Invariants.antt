use Rattle.std.proofs.Common.{◌≡◌, ◌++◌, map, drop}
use Rattle.anb_syntax.specs.Views.{know_of}
use Rattle.anb_syntax.specs.Grammar.{KnowItem}
use Rattle.anb_protocol.specs.Views.{pointed}
use Rattle.anb_mistakes.proofs.parts.line_names.Given as goal

abbrev pub invariant-loop-item : goal.invariant-loop-item
invariant-loop-item l = pointed l.names.items ++ map (λ (k : KnowItem). k.role) (map know_of (drop l.item-index l.n.knows.items)) ≡ map (λ (k : KnowItem). k.role) (map know_of l.n.knows.items)
