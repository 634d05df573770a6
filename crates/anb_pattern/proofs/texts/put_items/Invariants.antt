use Rattle.std.proofs.Common.{◌≡◌, ◌++◌, map, drop}
use Rattle.anb_term.specs.View.{tree_of}
use Rattle.anb_pattern.specs.Taken.{items}
use Rattle.anb_pattern.proofs.texts.put_items.Given as goal

abbrev pub invariant-loop-i : goal.invariant-loop-i
invariant-loop-i l =
    l.out.items ++ items l.protocol l.words l.named l.i (map tree_of (drop l.i l.terms)) ≡ l.initial.out.items ++ items l.protocol l.words l.named 0 (map tree_of l.terms)
