use Rattle.std.proofs.Common.{◌≡◌, map}
use Rattle.std.specs.List.{range_with_len}
use Rattle.anb_protocol.specs.Plans.{plan_of}
use Rattle.anb_honest.proofs.beginning.plans.Given as goal

abbrev pub invariant-loop-role : goal.invariant-loop-role
invariant-loop-role l = l.plans.items ≡ map (plan_of l.p) (range_with_len 0 l.role)
