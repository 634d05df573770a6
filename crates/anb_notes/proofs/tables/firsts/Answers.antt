use Rattle.std.proofs.Common.{List, take, sym, subst, arith}
use Rattle.std.proofs.lemmas.List.{take_all}
use Rattle.anb_notes.specs.declared.places.Place.{Place}
use Rattle.anb_notes.specs.Tables.{AreFirsts}
use Rattle.anb_notes.proofs.Firsts.{take_at}
use Rattle.anb_notes.proofs.tables.firsts.Goals as goal

pub loop-place-preserved : goal.loop-place-preserved
loop-place-preserved c =
    let all = c.args.all.now in
    let i = c.loop-place.place-index in
    subst (λ (l : List Place). AreFirsts c.args.many l c.put_first.new.table.items) (sym (take_at all i _ (omega arith)))
    (c.put_first.ensures c.args.many (take i all) c.loop-place.invariant)

pub returns : goal.returns
returns c = subst (λ (l : List Place). AreFirsts c.args.many l c.loop-place.table.items) (take_all c.loop-place.place-index c.args.all.now (omega arith)) c.loop-place.invariant
