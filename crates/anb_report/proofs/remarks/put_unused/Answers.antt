use Rattle.anb_report.proofs.Lines.{unused_put}
use Rattle.anb_report.proofs.remarks.put_unused.Goals as goal

pub returns : goal.returns
returns c =
    let whole = unused_put c.args.out.now.items c.args.there c.args.kind.now c.args.name.now c.if-there.false in
    rw (
      c.in_ok-push.ensures.items,
      c.in_ok-extend_from_slice-3.ensures.items,
      c.in_ok-extend_from_slice-2.ensures.items,
      c.in_ok-extend_from_slice.ensures.items,
    ) whole
