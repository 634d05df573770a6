use Rattle.std.proofs.Common.{arith}
use Rattle.std.proofs.lemmas.Option.{slice_get-get_or}
use Rattle.anb_lemmas.proofs.Lists.{got_within}
use Rattle.anb_close.proofs.Due.{none_next, found_next}
use Rattle.anb_close.proofs.growth.Growth.next.Goals as goal

pub loop-k-preserved : goal.loop-k-preserved
loop-k-preserved c = none_next _ _ c.args.touched.now c.args.from c.loop-k.k _ c.loop-k.invariant (slice_get-get_or c.args.touched.now c.loop-k.k 0 (omega arith)) (rw c.in-None.is at c.in_ok-opens.ensures)

pub returns-in-Some-clause-passed : goal.returns-in-Some-clause-passed
returns-in-Some-clause-passed c = found_next c.args.self.now.entries.items c.args.self.now.firsts.items c.args.touched.now c.args.from c.loop-k.k _ c.loop-k.invariant (slice_get-get_or c.args.touched.now c.loop-k.k 0 (omega arith))

pub returns-clause-passed : goal.returns-clause-passed
returns-clause-passed c k i h at = c.loop-k.invariant k i h (omega (arith, got_within c.args.touched.now k i at)) at
