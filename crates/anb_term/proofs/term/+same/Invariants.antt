use Rattle.std.proofs.Common.{◌≡◌, map, take}
use Rattle.anb_term.specs.View.{tree_of}
use Rattle.anb_term.proofs.term.+same.Given as goal

abbrev pub invariant-Terms::same-loop-i : goal.invariant-Terms::same-loop-i
invariant-Terms::same-loop-i l = map tree_of (take l.i l.self-inside.items.items) ≡ map tree_of (take l.i l.other-inside.items.items)
