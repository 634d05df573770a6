use Rattle.anb_syntax.specs.Views.{narration_of}
use Rattle.anb_mistakes.specs.Mends.{near}
use Rattle.anb_mistakes.specs.Near.{near_text}
use Rattle.anb_mistakes.proofs.Lines.{unknown_put}
use Rattle.anb_mistakes.proofs.mends.put_unknown.Goals as goal

pub returns : goal.returns
returns c =
    rw (c.in_ok-put_near.ensures, c.deref.ensures.value, c.in_ok-near.ensures, c.in_ok-put-2.ensures, c.in_ok-put.ensures)
    (unknown_put c.args.out.now.items c.args.name.now (near_text (near (narration_of c.args.narration.now) c.args.name.now)))
