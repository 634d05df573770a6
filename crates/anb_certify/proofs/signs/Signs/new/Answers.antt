use Rattle.std.proofs.Common.{sym, ap, ◌∙◌}
use Rattle.std.specs.Prelude.{slice_get}
use Rattle.anb_certify.proofs.Signing.{none_owned}
use Rattle.anb_certify.proofs.signs.Signs.new.Goals as goal

pub returns-clause-none : goal.returns-clause-none
returns-clause-none c s x own = none_owned _ own.0 x (sym (ap (λ l. slice_get l own.0) c.in_ok-owners.ensures) ∙ own.2)
