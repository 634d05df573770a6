use Rattle.std.proofs.Common.{take}
use Rattle.std.specs.List.{AllZip}
use Rattle.anb_choice.specs.Branching.{Tells, straights}
use Rattle.anb_choice.proofs.splitting.arms_in.Given as goal

abbrev pub invariant-loop-i : goal.invariant-loop-i
invariant-loop-i l = AllZip Tells (take l.i (straights l.text l.marks l.spans)) l.arms.items
