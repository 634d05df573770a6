use Rattle.std.proofs.Common.{List, map, take, sym, subst, arith}
use Rattle.std.specs.Prelude.{filter}
use Rattle.std.proofs.lemmas.List.{take_all}
use Rattle.anb_protocol.specs.Views.{action_value}
use Rattle.anb_notes.specs.declared.places.Place.{Place}
use Rattle.anb_notes.specs.Places.{is_from_other}
use Rattle.anb_notes.specs.Tables.{AreFirsts}
use Rattle.anb_notes.proofs.Firsts.{kept_at}
use Rattle.anb_notes.proofs.tables.others_firsts.Goals as goal

pub loop-place-preserved : goal.loop-place-preserved
loop-place-preserved c all are =
    let keys = c.args.keys.now in
    let i = c.loop-place.place-index in
    let keep = is_from_other (map action_value c.args.actions.now) all in
    subst (λ (l : List Place). AreFirsts c.args.many l c.put_first_if.new.table.items) (sym (kept_at keep keys i _ (omega arith)))
    (c.put_first_if.ensures c.args.many (filter keep (take i keys)) keep (c.loop-place.invariant all are) (c.is_from_other.ensures c.args.many all are))

pub returns : goal.returns
returns c all are =
    let keep = is_from_other (map action_value c.args.actions.now) all in
    subst (λ (l : List Place). AreFirsts c.args.many (filter keep l) c.loop-place.table.items) (take_all c.loop-place.place-index c.args.keys.now (omega arith)) (c.loop-place.invariant all are)
