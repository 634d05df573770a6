use Rattle.std.proofs.Common.{◌∙◌, ap, ◌++◌, ◌∷◌, []}
use Rattle.anb_honest.proofs.Valuing.{places_next}
use Rattle.anb_honest.proofs.given.first_places.Goals as goal

pub loop-i-preserved : goal.loop-i-preserved
loop-i-preserved c = places_next c.loop-i.places.items c.push.new.self.items c.loop-i.i c.loop-i.invariant (c.in_ok-push.ensures.items ∙ ap (λ x. c.loop-i.places.items ++ x ∷ []) c.from.ensures)
