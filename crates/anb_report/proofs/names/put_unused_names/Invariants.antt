use Rattle.std.proofs.Common.{◌≡◌, ◌-◌, ◌++◌, length}
use Rattle.std.specs.List.{flat_map, range_with_len}
use Rattle.anb_report.specs.Remarks.{unused_name, used_atoms}
use Rattle.anb_report.proofs.names.put_unused_names.Given as goal

abbrev pub invariant-loop-i : goal.invariant-loop-i
invariant-loop-i l = l.out.items ++ flat_map (unused_name l.protocol (used_atoms l.protocol)) (range_with_len l.i (length l.protocol.atoms - l.i)) ≡ l.initial.out.items ++ flat_map (unused_name l.protocol (used_atoms l.protocol)) (range_with_len 0 (length l.protocol.atoms))
