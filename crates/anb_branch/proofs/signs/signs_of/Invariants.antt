use Rattle.std.proofs.Common.{take}
use Rattle.anb_branch.specs.Signs.{AreSigns}
use Rattle.anb_branch.proofs.signs.signs_of.Given as goal

abbrev pub invariant-loop-arm : goal.invariant-loop-arm
invariant-loop-arm l = AreSigns l.b.stem l.role (take l.arm-index l.b.arms.items) l.signs.items
