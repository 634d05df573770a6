use Rattle.std.proofs.Common.{◌≡◌, map, drop}
use Rattle.anb_probe_commands.specs.Cases.{gap_line, joined_once}
use Rattle.anb_probe_commands.proofs.untried.put_gaps.Given as goal

abbrev pub invariant-loop-gap : goal.invariant-loop-gap
invariant-loop-gap l = joined_once l.lines.items (map (gap_line l.p l.role) (drop l.gap-index l.gaps)) ≡ joined_once l.initial.lines.items (map (gap_line l.p l.role) l.gaps)
