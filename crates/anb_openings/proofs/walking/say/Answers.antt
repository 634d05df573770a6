use Rattle.std.proofs.Common.{◌≡◌, Some, refl, sym, subst}
use Rattle.std.specs.Prelude.{slice_get}
use Rattle.std.proofs.lemmas.Bool.{ltb-true}
use Rattle.anb_term.proofs.Lists.{slice_get-at}
use Rattle.anb_openings.specs.declared.walking.Walk.{Walk}
use Rattle.anb_openings.proofs.Gone.{said, copied}
use Rattle.anb_openings.proofs.walking.say.Goals as goal

pub returns : goal.returns
returns c = λ made arrivals.
    let old = c.args.walk.now in
    let new : Walk = record old { sent = c.push.new.self; event = c.in-Some-checked_add.event } in
    let x = c.in-Some.message.now in
    let r = c.args.register in
    let here = subst (λ l. slice_get l r ≡ Some x) c.deref.ensures.value (slice_get-at c.deref.result.now r x (ltb-true _ _ (sym c.in-Some.ensures.lookup.0)) c.in-Some.ensures.lookup.1) in
    said made arrivals old new x r here refl (copied old.sent.items c.push.new.self.items c.in_ok-copy.field-0 x c.in_ok-push.ensures.items c.in_ok-copy.ensures) c.in-Some-checked_add.ensures.1 refl refl
