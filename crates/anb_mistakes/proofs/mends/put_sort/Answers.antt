use Rattle.std.proofs.Common.{◌≡◌, ◌∙◌}
use Rattle.anb_mistakes.specs.Mends.{sort_text}
use Rattle.anb_mistakes.proofs.Lines.{sort_put}
use Rattle.anb_mistakes.proofs.mends.put_sort.Goals as goal

pub returns : goal.returns
returns c =
    let sort : c.as_bytes.result.now ≡ sort_text c.args.sort = c.as_bytes.ensures.value ∙ c.sort_text.ensures in
    rw (c.in_ok-put-3.ensures, sort, c.in_ok-put-2.ensures, c.in_ok-put.ensures) (sort_put c.args.out.now.items c.args.name.now (sort_text c.args.sort))
