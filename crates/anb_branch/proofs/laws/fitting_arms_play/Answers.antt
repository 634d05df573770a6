use Rattle.std.proofs.Common.{arith}
use Rattle.std.specs.List.{AllByRecursion}
use Rattle.anb_compile.specs.Laws.{FittingCodesPlay}
use Rattle.anb_choice.specs.Views.{branched_of}
use Rattle.anb_branch.proofs.Deciding.{plays_taken}
use Rattle.anb_branch.proofs.laws.fitting_arms_play.Goals as goal

pub returns : goal.returns
returns c =
    let b = branched_of c.args.b.now in
    let law : AllByRecursion FittingCodesPlay b.arms = rw c.deref.ensures.value at c.all_play.ensures in
    plays_taken b c.args.role.now c.args.init.now c.args.seed.now c.args.codes.now c.requires.fit c.requires.count c.are_bytes_all.ensures law c.args.told (omega (arith, c.requires.lawful.few)) c.requires.told
