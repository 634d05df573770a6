use Rattle.std.proofs.Common.{◌≡◌, ◌-◌, ◌++◌, length}
use Rattle.std.specs.List.{flat_map, range_with_len}
use Rattle.anb_report.specs.Remarks.{plan_formats}
use Rattle.anb_report.proofs.remarks.used_formats.Given as goal

abbrev pub invariant-loop-role : goal.invariant-loop-role
invariant-loop-role l = l.out.items ++ flat_map (plan_formats l.protocol) (range_with_len l.role (length l.protocol.roles - l.role)) ≡ flat_map (plan_formats l.protocol) (range_with_len 0 (length l.protocol.roles))
