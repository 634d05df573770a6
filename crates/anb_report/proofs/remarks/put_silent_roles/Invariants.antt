use Rattle.std.proofs.Common.{◌≡◌, ◌-◌, ◌++◌, length}
use Rattle.std.specs.List.{flat_map, range_with_len}
use Rattle.anb_report.specs.Remarks.{silent_role}
use Rattle.anb_report.proofs.remarks.put_silent_roles.Given as goal

abbrev pub invariant-loop-role : goal.invariant-loop-role
invariant-loop-role l = l.out.items ++ flat_map (silent_role l.protocol) (range_with_len l.role (length l.protocol.roles - l.role)) ≡ l.initial.out.items ++ flat_map (silent_role l.protocol) (range_with_len 0 (length l.protocol.roles))
