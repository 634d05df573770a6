use Rattle.std.proofs.Common.{map, sym, ◌∙◌, arith}
use Rattle.std.proofs.lemmas.List.{length-map}
use Rattle.anb_protocol.specs.Views.{plan_event}
use Rattle.anb_certify.proofs.Framing.{stray_end}
use Rattle.anb_certify.proofs.frames.stray.Goals as goal

pub returns-then-next-events : goal.returns-then-next-events
returns-then-next-events c =
    sym (c.loop-i.invariant.same ∙ stray_end c.args.p.now c.args.instrs.now (map plan_event c.args.events.now) c.loop-i.i c.loop-i.next (omega (arith, c.loop-i.auto.i-end, c.loop-i-test.false)) (omega (arith, c.if-next-events.true, length-map c.args.events.now plan_event)))
