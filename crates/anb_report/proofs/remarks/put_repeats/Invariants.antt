use Rattle.std.proofs.Common.{◌≡◌, ◌-◌, ◌++◌, length, map}
use Rattle.std.specs.List.{flat_map, range_with_len}
use Rattle.anb_protocol.specs.Views.{action_value}
use Rattle.anb_report.specs.Remarks.{repeated}
use Rattle.anb_report.proofs.remarks.put_repeats.Given as goal

abbrev pub invariant-loop-i : goal.invariant-loop-i
invariant-loop-i l = l.out.items ++ flat_map (repeated (map action_value l.actions)) (range_with_len l.i (length l.actions - l.i)) ≡ l.initial.out.items ++ flat_map (repeated (map action_value l.actions)) (range_with_len 0 (length l.actions))
