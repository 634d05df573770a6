use Rattle.std.proofs.Common.{map, arith}
use Rattle.anb_lemmas.proofs.Each.{each_got}
use Rattle.anb_term.specs.View.{tree_of}
use Rattle.anb_term.proofs.Lists.{slice_get-at, slice_get-map}
use Rattle.anb_protocol.specs.Texts.{IsTermOf}
use Rattle.anb_lack.proofs.Written.{had_next}
use Rattle.anb_lack.proofs.lines.put_had_lines.Goals as goal

pub put_had_line-requires : goal.put_had_line-requires
put_had_line-requires c =
    let ts = c.args.terms.now in
    let i = c.loop-i.i in
    let x = c.index-terms-i.result in
    each_got (IsTermOf c.args.protocol.now) (map tree_of ts) i (tree_of x) c.requires.terms (slice_get-map tree_of ts i x (slice_get-at ts i x (omega arith) c.index-terms-i.is))

pub loop-i-preserved : goal.loop-i-preserved
loop-i-preserved c =
    had_next c.args.protocol.now c.args.terms.now c.args.origins.now c.loop-i.i c.index-terms-i.result _ c.loop-i.out.items c.put_had_line.new.out.items _
    (omega arith) (omega (arith, c.requires.long)) c.index-terms-i.is c.in_ok-put_had_line.ensures c.loop-i.invariant
