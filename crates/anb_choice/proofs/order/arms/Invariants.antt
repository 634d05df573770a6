use Rattle.std.proofs.Common.{◌≤◌, length}
use Rattle.anb_choice.proofs.Spans.{SoFar}
use Rattle.anb_choice.proofs.order.arms.Given as goal

abbrev pub invariant-arms : goal.invariant-arms
invariant-arms l = record { few : length l.spans.items ≤ 8; so_far : SoFar l.marks l.spans.items l.rest }

abbrev pub decreases-arms : goal.decreases-arms
decreases-arms l = length l.rest
