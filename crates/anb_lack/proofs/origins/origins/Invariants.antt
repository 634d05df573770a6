use Rattle.std.proofs.Common.{map, take}
use Rattle.std.specs.List.{AllZip}
use Rattle.anb_term.specs.View.{tree_of}
use Rattle.anb_protocol.specs.Plans.{plan_of}
use Rattle.anb_lack.specs.Origins.{ComesFrom}
use Rattle.anb_lack.proofs.origins.origins.Given as goal

abbrev pub invariant-loop-term : goal.invariant-loop-term
invariant-loop-term l = AllZip (ComesFrom l.p (plan_of l.p l.role)) (map tree_of (take l.term-index l.terms)) l.origins.items
