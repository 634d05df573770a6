use Rattle.anb_choice.proofs.Ordering.{order_there}
use Rattle.anb_choice.proofs.Spans.{parts_stand}
use Rattle.anb_choice.proofs.splitting.chooser_in.Goals as goal

pub bytes_between-requires-clause-from : goal.bytes_between-requires-clause-from
bytes_between-requires-clause-from c =
    let p = parts_stand c.args.text.now c.args.marks.now c.requires.ordered.0 c.requires.stand.0 (order_there c.args.marks.now c.requires.ordered.0 c.requires.ordered.1.order) c.requires.stand.1 in
    rw (c.place_at.ensures, c.past_at.ensures, c.stem_size-at.ensures.size) p.bytes

pub bytes_between-requires-clause-to : goal.bytes_between-requires-clause-to
bytes_between-requires-clause-to c =
    let p = parts_stand c.args.text.now c.args.marks.now c.requires.ordered.0 c.requires.stand.0 (order_there c.args.marks.now c.requires.ordered.0 c.requires.ordered.1.order) c.requires.stand.1 in
    rw (c.past_at.ensures, c.stem_size-at.ensures.size) p.high

pub name_text-requires : goal.name_text-requires
name_text-requires c =
    let p = parts_stand c.args.text.now c.args.marks.now c.requires.ordered.0 c.requires.stand.0 (order_there c.args.marks.now c.requires.ordered.0 c.requires.ordered.1.order) c.requires.stand.1 in
    rw (c.bytes_between.ensures, c.place_at.ensures, c.past_at.ensures, c.stem_size-at.ensures.size) p.name
