use Rattle.std.proofs.Common.{◌≡◌, ◌∙◌}
use Rattle.std.specs.Prelude.{decimal}
use Rattle.anb_mistakes.proofs.Lines.{heading_put}
use Rattle.anb_mistakes.proofs.pointing.put_heading.Goals as goal

pub returns : goal.returns
returns c =
    let line : c.as_bytes.result.now ≡ decimal c.args.line = c.as_bytes.ensures.value ∙ c.format.ensures.text in
    let column : c.as_bytes-2.result.now ≡ decimal c.args.column = c.as_bytes-2.ensures.value ∙ c.format-2.ensures.text in
    rw (c.in_ok-put-8.ensures, c.in_ok-put-7.ensures, c.in_ok-put-6.ensures, c.in_ok-put-5.ensures, column, c.in_ok-put-4.ensures, c.in_ok-put-3.ensures, line, c.in_ok-put-2.ensures, c.in_ok-put.ensures)
    (heading_put c.args.out.now.items c.args.name.now (decimal c.args.line) (decimal c.args.column) c.args.message.now)
