use Rattle.std.proofs.Common.{inl, inr, refl}
use Rattle.anb_c.proofs.telling.hand_in.Goals as goal

pub returns-in-Elsewhere-clause-arrives : goal.returns-in-Elsewhere-clause-arrives
returns-in-Elsewhere-clause-arrives c = λ code p sent at.
    let w = c.in-Elsewhere.ensures.stands code p sent at in
    inr (inr (inl (refl, w.0, w.1)))
