use Rattle.std.proofs.Common.{ap, ◌∙◌}
use Rattle.anb_partner.specs.Plans.{Script}
use Rattle.anb_dues.proofs.Grounding.{grounds, plays_by, told}
use Rattle.anb_dues.proofs.Narrating.{one_of_both}
use Rattle.anb_dues.proofs.laws.right_programs_pass.Goals as goal

pub returns : goal.returns
returns c =
    let p = c.args.p.now in
    let plays_it = plays_by p c.new.result.formats c.new.result.suite (c.new.ensures.formats ∙ c.formats.ensures) (c.new.ensures.suite ∙ c.suite.ensures) c.runs_as_played.ensures in
    λ a is of read plays asked.
    let base = grounds p of.role of.code (c.protocols_hold.ensures p c.name.ensures.protocol) (λ role. c.terms_of_plans.ensures p role c.name.ensures.protocol) c.plans_know_first.ensures c.made_is_new.ensures plays_it of.is_code in
    let same = ap (λ (s : Script). s.protocol) of.is.script in
    one_of_both p a is of (told p c.partners_play.ensures a of base) plays
    (λ unrefused stops. c.right_programs_pass.ensures a same is (c.dues_are_known.ensures a is of) read unrefused plays stops) (λ n. c.right_programs_pass_as_narrated.ensures a same is read plays n) asked
