use Rattle.std.proofs.Common.{◌≡◌, ◌++◌, drop, map}
use Rattle.std.specs.List.{flat_map}
use Rattle.anb_term.specs.View.{tree_of}
use Rattle.anb_lack.specs.Rooted.{locked_values, root_value}
use Rattle.anb_lack.specs.Roots.{root_in}
use Rattle.anb_lack.proofs.roots.roots_behind.Given as goal

abbrev pub invariant-loop-i : goal.invariant-loop-i
invariant-loop-i l = map root_value l.out.items ++ flat_map (root_in (locked_values l.locks)) (map tree_of (drop l.i l.parts)) ≡ flat_map (root_in (locked_values l.locks)) (map tree_of l.parts)
