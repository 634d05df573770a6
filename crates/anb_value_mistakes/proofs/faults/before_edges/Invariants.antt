use Rattle.std.proofs.Common.{◌≡◌, ◌≤◌, length}
use Rattle.anb_values.specs.Lines.{is_edge, before_trailing}
use Rattle.anb_value_mistakes.proofs.faults.before_edges.Given as goal

abbrev pub invariant-loop-kept : goal.invariant-loop-kept
invariant-loop-kept l = record { same : before_trailing is_edge l.kept ≡ before_trailing is_edge l.fn.bytes; within : length l.kept ≤ length l.fn.bytes }

abbrev pub decreases-loop-kept : goal.decreases-loop-kept
decreases-loop-kept l = length l.kept
