use Rattle.std.proofs.Common.{◌≡◌, map, take}
use Rattle.anb_choice.specs.Lawful.{told_by}
use Rattle.anb_choice.proofs.blindness.told_in_each.Given as goal

abbrev pub invariant-loop-p : goal.invariant-loop-p
invariant-loop-p l = l.told.items ≡ map (told_by l.stem l.role) (take l.p-index l.arms)
