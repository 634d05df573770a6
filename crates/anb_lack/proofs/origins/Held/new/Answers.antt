use Rattle.std.proofs.Common.{[], sym, subst}
use Rattle.anb_lack.specs.Held.{IsHeld}
use Rattle.anb_lack.proofs.Having.{nothing_held}
use Rattle.anb_lack.proofs.origins.Held.new.Goals as goal

pub returns : goal.returns
returns c plan = subst (λ es. IsHeld plan 0 es c.new-2.result.items) (sym c.new.ensures) (subst (IsHeld plan 0 []) (sym c.new-2.ensures.items) (nothing_held plan))
