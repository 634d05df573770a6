use Rattle.std.proofs.Common.{take}
use Rattle.std.specs.List.{AllByRecursion}
use Rattle.anb_compile.specs.Laws.{FittingCodesPlay}
use Rattle.anb_branch.proofs.playing.all_play.Given as goal

abbrev pub invariant-loop-arm : goal.invariant-loop-arm
invariant-loop-arm l = AllByRecursion FittingCodesPlay (take l.arm-index l.arms)
