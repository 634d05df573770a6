use Rattle.std.proofs.Common.{◌+◌, refl, sym}
use Rattle.std.proofs.lemmas.Bool.{ltb-true}
use Rattle.anb_term.proofs.Lists.{slice_get-at}
use Rattle.anb_openings.specs.declared.walking.Walk.{Walk}
use Rattle.anb_openings.proofs.Gone.{drew, copied}
use Rattle.anb_openings.proofs.walking.draw.Goals as goal

pub returns : goal.returns
returns c = λ arrivals.
    let old = c.args.walk.now in
    let new : Walk = record old { table = c.push.new.self; drawn = old.drawn + 1 } in
    let x = c.in-Some.name.now in
    drew c.args.made.now arrivals old new x (slice_get-at c.args.made.now old.drawn x (ltb-true _ _ (sym c.in-Some.ensures.lookup.0)) c.in-Some.ensures.lookup.1) (copied old.table.items c.push.new.self.items c.in_ok-copy.field-0 x c.in_ok-push.ensures.items c.in_ok-copy.ensures) refl refl refl refl
