use Rattle.std.proofs.Common.{arith, ap}
use Rattle.anb_term.specs.Tree.{nodes}
use Rattle.anb_basis.proofs.Frames.{formed_one, room_left, one_label}
use Rattle.anb_basis.proofs.basis.all_checks.Goals as goal

pub next-requires-clause-formed : goal.next-requires-clause-formed
next-requires-clause-formed c = formed_one c.args.frame.now c.loop-t.t-index c.t-item.result c.requires.formed (omega arith) c.t-item.is

pub next-requires-clause-few : goal.next-requires-clause-few
next-requires-clause-few c = omega (arith, room_left c.args.frame.now c.loop-t.t-index c.t-item.result (omega arith) c.t-item.is, c.requires.few, ap nodes c.loop-t.invariant)

pub loop-t-preserved : goal.loop-t-preserved
loop-t-preserved c = one_label _ _ c.args.frame.now c.loop-t.t-index c.t-item.result c.in_ok-next.ensures.added c.loop-t.invariant (omega arith) c.t-item.is
