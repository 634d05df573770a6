use Rattle.anb_chart.specs.Charts.{participant}
use Rattle.anb_report.proofs.Lines.{note_put}
use Rattle.anb_report.proofs.charting.put_note_over.Goals as goal

pub returns : goal.returns
returns c =
    let whole = note_put c.args.out.now.items (participant c.args.protocol.now c.args.role) c.args.note.now in
    rw (
      c.in_ok-push.ensures.items,
      c.in_ok-extend_from_slice-3.ensures.items,
      c.in_ok-extend_from_slice-2.ensures.items,
      c.in_ok-put_participant.ensures,
      c.in_ok-extend_from_slice.ensures.items,
    ) whole
