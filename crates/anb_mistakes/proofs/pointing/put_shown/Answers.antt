use Rattle.std.proofs.Common.{length}
use Rattle.anb_mistakes.specs.Pointing.{blank, padded, part, skipped, space, unreturned}
use Rattle.anb_mistakes.proofs.Lines.{shown_put}
use Rattle.anb_mistakes.proofs.pointing.put_shown.Goals as goal

pub returns : goal.returns
returns c =
    let source = unreturned c.args.source.now in
    let from = skipped (length source) (length c.args.before.now) in
    rw (c.in_ok-put-4.ensures, c.in_ok-put_space.ensures, c.in_ok-put-3.ensures, c.in_ok-put_blank.ensures, c.in_ok-put-2.ensures, c.in_ok-put_part.ensures, c.in_ok-put.ensures, c.in_ok-put_padded.ensures, c.skipped-from.ensures, c.unreturned-source.ensures)
    (shown_put c.args.out.now.items (padded c.args.line) (part from source) (blank c.args.line) (space from c.args.before.now))
