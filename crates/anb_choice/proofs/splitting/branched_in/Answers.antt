use Rattle.std.proofs.Common.{arith}
use Rattle.std.proofs.lemmas.List.{length-map}
use Rattle.std.proofs.lemmas.Slice.Zip.{AllZip-long}
use Rattle.anb_choice.specs.Branching.{Tells}
use Rattle.anb_choice.specs.Order.{straight}
use Rattle.anb_choice.proofs.Faults.{arm_untold}
use Rattle.anb_choice.proofs.Ordering.{order_there}
use Rattle.anb_choice.proofs.Spans.{parts_stand}
use Rattle.anb_choice.proofs.splitting.branched_in.Goals as goal

pub arms_in-requires-clause-few : goal.arms_in-requires-clause-few
arms_in-requires-clause-few c = c.requires.ordered.order.most

pub arms_in-requires-clause-spans : goal.arms_in-requires-clause-spans
arms_in-requires-clause-spans c =
    (parts_stand c.args.text.now c.args.marks.now c.args.spans.now c.requires.stand.0 (order_there c.args.marks.now c.args.spans.now c.requires.ordered.order) c.requires.stand.1).arms

pub stem_actions-requires : goal.stem_actions-requires
stem_actions-requires c = omega (arith, c.requires.count, c.requires.size)

pub returns-in-Err-clause-refused : goal.returns-in-Err-clause-refused
returns-in-Err-clause-refused c = λ some. arm_untold c.args.text.now c.args.marks.now c.args.spans.now c.in-Err.no c.requires.ordered (c.in-Err.ensures.refused some)

pub returns-clause-few : goal.returns-clause-few
returns-clause-few c =
    omega (arith, AllZip-long Tells _ _ c.in-Ok.ensures.told, length-map c.args.spans.now (straight c.args.text.now c.args.marks.now), c.requires.ordered.order.most)
