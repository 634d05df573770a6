use Rattle.std.proofs.Common.{map, take}
use Rattle.std.specs.List.{AllByRecursion}
use Rattle.anb_term.specs.View.{tree_of}
use Rattle.anb_partner.specs.Plans.{MayStand}
use Rattle.anb_attempts.proofs.scenes.all_may_stand.Given as goal

abbrev pub invariant-loop-t : goal.invariant-loop-t
invariant-loop-t l = AllByRecursion (MayStand l.p) (map tree_of (take l.t-index l.terms))
