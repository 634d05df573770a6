use Rattle.std.proofs.Common.{◌∙◌}
use Rattle.anb_code.specs.Meaning.{acts_of}
use Rattle.anb_dues.proofs.Grounding.{grounds, plays_by, stopping_in, told}
use Rattle.anb_dues.proofs.Knowing.{known_in}
use Rattle.anb_dues.proofs.laws.dues_are_known.Goals as goal

pub returns : goal.returns
returns c =
    let p = c.args.p.now in
    let plays = plays_by p c.new.result.formats c.new.result.suite (c.new.ensures.formats ∙ c.formats.ensures) (c.new.ensures.suite ∙ c.suite.ensures) c.runs_as_played.ensures in
    λ a is of.
    let base = grounds p of.role of.code (c.protocols_hold.ensures p c.name.ensures.protocol) (λ role. c.terms_of_plans.ensures p role c.name.ensures.protocol) c.plans_know_first.ensures c.made_is_new.ensures plays of.is_code in
    known_in a (acts_of of.code) (stopping_in p a is of (told p c.partners_play.ensures a of base))
