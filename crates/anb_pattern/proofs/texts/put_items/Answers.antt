use Rattle.std.proofs.Common.{map, arith}
use Rattle.anb_lemmas.proofs.Each.{each_got}
use Rattle.anb_lemmas.proofs.Lists.{item_at}
use Rattle.anb_protocol.specs.Texts.{IsTermOf}
use Rattle.anb_term.specs.View.{tree_of}
use Rattle.anb_term.proofs.Lists.{slice_get-map}
use Rattle.anb_pattern.proofs.texts.put_items.Goals as goal

pub text_of_term-requires : goal.text_of_term-requires
text_of_term-requires c =
    let ts = c.args.terms.now in
    let i = c.loop-i.i in
    let x = c.index-terms-i.result in
    each_got (IsTermOf c.args.protocol.now) (map tree_of ts) i (tree_of x) c.requires (slice_get-map tree_of ts i x (item_at ts i x (omega arith) c.index-terms-i.is))
