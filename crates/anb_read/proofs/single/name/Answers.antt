use Rattle.std.proofs.Common.{Ok, ap, ◌∙◌, sym}
use Rattle.anb_read.specs.Places.{toks}
use Rattle.anb_read.proofs.Passing.{passes_name}
use Rattle.anb_read.proofs.single.name.Goals as goal

pub returns-in_ok-name_text-in-Name : goal.returns-in_ok-name_text-in-Name
returns-in_ok-name_text-in-Name c =
    passes_name c.in-Name.bytes.now (toks c.args.text.now c.args.places.now) (toks c.args.text.now c.others.result.now) c.in-Name.ensures (sym c.if-not-is_name.ensures) (c.others.ensures c.args.text.now)
    ∙ ap (λ n. Ok (n, toks c.args.text.now c.others.result.now)) (sym c.in_ok-name_text-in-Name.ensures)
