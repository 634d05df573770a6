use Rattle.std.proofs.Common.{length, map, arith}
use Rattle.anb_lemmas.proofs.Each.{each_got}
use Rattle.anb_term.proofs.Lists.{slice_get-at, slice_get-map}
use Rattle.anb_lack.specs.Rooted.{root_value, HasTerms}
use Rattle.anb_lack.specs.Roots.{knows, makes}
use Rattle.anb_lack.proofs.Telling.{column_at}
use Rattle.anb_lack.proofs.root_lines.put_root_lines.Goals as goal

pub put_root_line-requires-clause-terms : goal.put_root_line-requires-clause-terms
put_root_line-requires-clause-terms c =
    let roots = c.args.roots.now in
    let i = c.loop-i.i in
    let x = c.index-roots-i.result in
    each_got (HasTerms c.args.protocol.now) (map root_value roots) i (root_value x) c.requires.terms (slice_get-map root_value roots i x (slice_get-at roots i x (omega arith) c.index-roots-i.is))

pub put_root_line-requires-clause-knowing : goal.put_root_line-requires-clause-knowing
put_root_line-requires-clause-knowing c =
    let p = c.args.protocol.now in
    column_at c.args.roots.now (knows p) (length p.roles) c.args.knowing.now c.loop-i.i c.index-roots-i.result (omega arith) c.index-roots-i.is c.requires.knowing

pub put_root_line-requires-clause-making : goal.put_root_line-requires-clause-making
put_root_line-requires-clause-making c =
    let p = c.args.protocol.now in
    column_at c.args.roots.now (makes p) (length p.roles) c.args.making.now c.loop-i.i c.index-roots-i.result (omega arith) c.index-roots-i.is c.requires.making
