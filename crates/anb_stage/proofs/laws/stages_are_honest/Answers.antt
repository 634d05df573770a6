use Rattle.std.proofs.Common.{◌≡◌, ◌∙◌, List, subst}
use Rattle.anb_base.specs.declared.content.Suite.{Suite}
use Rattle.anb_format.specs.Formats.{FormatValue}
use Rattle.anb_algebra.specs.ByteMeaning.{byte_meaning}
use Rattle.anb_plays.specs.Statements.{HonestPlays, PlaysAreOne}
use Rattle.anb_stage.proofs.Complete.{relays_are_complete}
use Rattle.anb_stage.proofs.HonestStage.{stages_are_honest}
use Rattle.anb_stage.proofs.laws.stages_are_honest.Goals as goal

pub returns-clause-honest : goal.returns-clause-honest
returns-clause-honest c =
    let p = c.args.p.now in
    let formats : c.new-algebra.result.formats ≡ p.formats = c.new-algebra.ensures.formats ∙ c.formats.ensures in
    let suite : c.new-algebra.result.suite ≡ p.suite = c.new-algebra.ensures.suite ∙ c.suite.ensures in
    let plays = subst (λ (s : Suite). HonestPlays (byte_meaning p.formats s)) suite
    (subst (λ (f : List FormatValue). HonestPlays (byte_meaning f c.new-algebra.result.suite)) formats c.honest_plays.ensures) in
    let one = subst (λ (s : Suite). PlaysAreOne (byte_meaning p.formats s)) suite
    (subst (λ (f : List FormatValue). PlaysAreOne (byte_meaning f c.new-algebra.result.suite)) formats c.plays_are_one.ensures) in
    let holds = c.protocols_hold.ensures p c.name.ensures.protocol in
    λ atoms. stages_are_honest p atoms holds.ends holds.formed c.one_cut.ensures.unique plays one

pub returns-clause-complete : goal.returns-clause-complete
returns-clause-complete c =
    let holds = c.protocols_hold.ensures c.args.p.now c.name.ensures.protocol in relays_are_complete c.args.p.now holds.ends
