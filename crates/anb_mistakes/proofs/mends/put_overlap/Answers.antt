use Rattle.anb_syntax.specs.Views.{narration_of}
use Rattle.anb_mistakes.specs.Items.{pieces_of}
use Rattle.anb_mistakes.specs.Mends.{lead}
use Rattle.anb_mistakes.proofs.Lines.{overlap_put}
use Rattle.anb_mistakes.proofs.mends.put_overlap.Goals as goal

pub returns : goal.returns
returns c =
    let formats = (narration_of c.args.narration.now).formats in
    rw (c.in_ok-put_lead-2.ensures, c.pieces_of-2.ensures, c.deref-2.ensures.value, c.in_ok-put-5.ensures, c.in_ok-put-4.ensures, c.in_ok-put-3.ensures, c.in_ok-put_lead.ensures, c.pieces_of.ensures, c.deref.ensures.value, c.in_ok-put-2.ensures, c.in_ok-put.ensures)
    (overlap_put c.args.out.now.items c.args.one.now (lead (pieces_of formats c.args.one.now)) c.args.other.now (lead (pieces_of formats c.args.other.now)))
