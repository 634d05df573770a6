use Rattle.std.proofs.Common.{◌≡◌, ◌-◌, length}
use Rattle.std.specs.List.{flat_map, range_with_len}
use Rattle.anb_protocol.specs.Seen.{marked}
use Rattle.anb_report.specs.Remarks.{plan_atoms}
use Rattle.anb_report.proofs.names.mark_plans.Given as goal

abbrev pub invariant-loop-role : goal.invariant-loop-role
invariant-loop-role l = marked l.marks.items (flat_map (plan_atoms l.protocol) (range_with_len l.role (length l.protocol.roles - l.role))) ≡ marked l.initial.marks.items (flat_map (plan_atoms l.protocol) (range_with_len 0 (length l.protocol.roles)))
