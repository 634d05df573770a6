use Rattle.std.proofs.Common.{◌≡◌, ◌++◌, drop, map}
use Rattle.std.specs.List.{flat_map}
use Rattle.anb_lack.specs.Rooted.{root_value}
use Rattle.anb_lack.specs.Roots.{root_line}
use Rattle.anb_lack.proofs.root_lines.put_root_lines.Given as goal

abbrev pub invariant-loop-i : goal.invariant-loop-i
invariant-loop-i l = l.out.items ++ flat_map (root_line l.protocol l.sender) (map root_value (drop l.i l.roots)) ≡ l.initial.out.items ++ flat_map (root_line l.protocol l.sender) (map root_value l.roots)
