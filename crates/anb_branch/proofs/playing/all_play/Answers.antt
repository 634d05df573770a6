use Rattle.std.proofs.Common.{◌+◌, List, take, sym, subst, arith}
use Rattle.std.specs.Prelude.{◌≡◌, ◌∷◌, [], ◌++◌}
use Rattle.std.specs.List.{AllByRecursion}
use Rattle.anb_lemmas.proofs.Each.{each_and_last, take_next}
use Rattle.anb_protocol.specs.Protocols.{ProtocolValue}
use Rattle.anb_compile.specs.Laws.{FittingCodesPlay}
use Rattle.anb_branch.proofs.playing.all_play.Goals as goal

pub loop-arm-preserved : goal.loop-arm-preserved
loop-arm-preserved c =
    let i = c.loop-arm.arm-index in
    let arms = c.args.arms.now in
    let arm = c.arm-item.result in
    let next : take (i + 1) arms ≡ take i arms ++ arm ∷ [] = take_next arms i arm (omega (arith, c.loop-arm-test.true, c.loop-arm.auto.arm-index-end)) c.arm-item.is in
    let P : List ProtocolValue → Type 0 = λ l. AllByRecursion FittingCodesPlay l in
    subst P (sym next) (each_and_last FittingCodesPlay (take i arms) arm c.loop-arm.invariant c.fitting_codes_play.ensures)
