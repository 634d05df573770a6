use Rattle.std.proofs.Common.{bit_xor, arith}
use Rattle.anb_seal.proofs.hmac.xor_each.Goals as goal
use Rattle.std.proofs.lemmas.List.{get_or_default}
use Rattle.std.proofs.lemmas.List.Edits.{map_over_more}

pub loop-b-preserved : goal.loop-b-preserved
loop-b-preserved c = map_over_more (λ b. bit_xor b c.args.pad) c.args.block.now c.loop-b.block c.loop-b.b-index _ c.loop-b-test.true c.loop-b.invariant (get_or_default c.loop-b.block c.loop-b.b-index 0 _ (omega (arith, c.loop-b-test.true)))
