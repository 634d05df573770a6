use Rattle.std.proofs.Common.{arith}
use Rattle.anb_park.specs.Lives.{LiveValue}
use Rattle.anb_park.proofs.Standing.{stands_at_start}
use Rattle.anb_park.proofs.live.Live.start.Goals as goal

pub returns-clause-stands : goal.returns-clause-stands
returns-clause-stands c =
    let live : LiveValue = record { machine = c.in_ok-machine.machine; body = c.in_ok-body.body.items } in
    stands_at_start c.args.code.now c.args.id c.args.seed.now c.args.session c.args.init.now live c.begin_body.ensures.id c.told-seed (omega (arith, c.ranges.session)) c.requires.count c.requires.short
    c.in_ok-body.ensures.body c.in_ok-machine.ensures.run
