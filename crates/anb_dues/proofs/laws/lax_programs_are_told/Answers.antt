use Rattle.std.proofs.Common.{ap}
use Rattle.anb_partner.specs.Plans.{Script}
use Rattle.anb_dues.proofs.laws.lax_programs_are_told.Goals as goal

pub returns : goal.returns
returns c = λ a is of tried good told.
    c.lax_programs_are_told.ensures a (ap (λ (s : Script). s.protocol) of.is.script) is (c.dues_are_known.ensures a is of) tried good told
