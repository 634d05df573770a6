use Rattle.std.proofs.Common.{◌≡◌, ◌-◌, ◌++◌, length}
use Rattle.std.specs.List.{flat_map, range_with_len}
use Rattle.anb_report.specs.Remarks.{unused_format}
use Rattle.anb_report.proofs.remarks.put_unused_formats.Given as goal

abbrev pub invariant-loop-i : goal.invariant-loop-i
invariant-loop-i l = l.out.items ++ flat_map (unused_format l.formats l.used) (range_with_len l.i (length l.formats - l.i)) ≡ l.initial.out.items ++ flat_map (unused_format l.formats l.used) (range_with_len 0 (length l.formats))
