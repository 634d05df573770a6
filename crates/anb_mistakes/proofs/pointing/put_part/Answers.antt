use Rattle.anb_mistakes.proofs.Lines.{part_put}
use Rattle.anb_mistakes.proofs.pointing.put_part.Goals as goal

pub returns : goal.returns
returns c =
    rw (c.in_ok-put-3.ensures, c.gap-2.ensures, c.in_ok-put-2.ensures, c.first.ensures, c.in_ok-put.ensures, c.gap.ensures, c.behind-rest.ensures)
    (part_put c.args.out.now.items c.args.from c.args.line.now)
