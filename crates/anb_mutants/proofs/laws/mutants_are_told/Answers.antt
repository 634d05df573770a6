use Rattle.std.proofs.Common.{◌∙◌}
use Rattle.anb_dues.proofs.Grounding.{grounds, plays_by}
use Rattle.anb_mutants.proofs.Mutants.{mutant_told}
use Rattle.anb_mutants.proofs.laws.mutants_are_told.Goals as goal

pub returns : goal.returns
returns c =
    let p = c.args.p.now in
    let plays = plays_by p c.new.result.formats c.new.result.suite (c.new.ensures.formats ∙ c.formats.ensures) (c.new.ensures.suite ∙ c.suite.ensures) c.runs_as_played.ensures in
    λ a is of out check at drops dropped mutant.
    mutant_told p c.partners_play.ensures a is of
    (grounds p of.role of.code (c.protocols_hold.ensures p c.name.ensures.protocol) (λ role. c.terms_of_plans.ensures p role c.name.ensures.protocol) c.plans_know_first.ensures c.made_is_new.ensures plays of.is_code)
    out check at drops dropped mutant
