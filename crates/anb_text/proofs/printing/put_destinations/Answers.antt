use Rattle.std.proofs.Common.{◌≡◌, ◌<◌, arith}
use Rattle.anb_text.proofs.Printed.{put_next, put_registers}
use Rattle.anb_text.proofs.printing.put_destinations.Goals as goal

pub loop-k-preserved : goal.loop-k-preserved
loop-k-preserved c = put_next _ _ _ _ c.args.first c.loop-k.k c.in_ok-extend_from_slice.ensures.items c.in_ok-put_register.ensures c.loop-k.invariant

pub returns : goal.returns
returns c =
    let some : 0 < c.args.count = omega (arith, c.if-count-eq0.false) in
    let all : c.loop-k.k ≡ c.args.count = omega (arith, c.loop-k.auto.k-end, c.loop-k-test.false) in
    put_registers _ _ _ c.args.first c.args.count some c.in_ok-extend_from_slice-2.ensures.items (rw (← all) c.loop-k.invariant)
