use Rattle.std.proofs.Common.{map, arith}
use Rattle.anb_lemmas.proofs.Each.{each_got}
use Rattle.anb_term.specs.View.{tree_of}
use Rattle.anb_term.proofs.Lists.{slice_get-at, slice_get-map}
use Rattle.anb_protocol.specs.Texts.{IsTermOf}
use Rattle.anb_lack.proofs.lines.put_parts.Goals as goal

pub put_part-requires : goal.put_part-requires
put_part-requires c =
    let ts = c.args.parts.now in
    let i = c.loop-part.part-index in
    let x = c.part-item.result in
    each_got (IsTermOf c.args.protocol.now) (map tree_of ts) i (tree_of x) c.requires (slice_get-map tree_of ts i x (slice_get-at ts i x (omega arith) c.part-item.is))
