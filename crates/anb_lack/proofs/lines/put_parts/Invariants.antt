use Rattle.std.proofs.Common.{◌≡◌, ◌++◌, drop, map}
use Rattle.std.specs.List.{flat_map}
use Rattle.anb_term.specs.View.{tree_of}
use Rattle.anb_lack.specs.Lacking.{lacking_line}
use Rattle.anb_lack.proofs.lines.put_parts.Given as goal

abbrev pub invariant-loop-part : goal.invariant-loop-part
invariant-loop-part l =
    l.out.items ++ flat_map (lacking_line l.protocol) (map tree_of (drop l.part-index l.parts)) ≡ l.initial.out.items ++ flat_map (lacking_line l.protocol) (map tree_of l.parts)
