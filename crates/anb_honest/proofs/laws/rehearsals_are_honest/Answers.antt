use Rattle.std.proofs.Common.{◌≡◌, List, subst, ◌∙◌}
use Rattle.anb_base.specs.declared.content.Suite.{Suite}
use Rattle.anb_format.specs.Formats.{FormatValue}
use Rattle.anb_algebra.specs.ByteMeaning.{byte_meaning}
use Rattle.anb_plays.specs.Statements.{HonestPlays}
use Rattle.anb_honest.specs.Joint.{cast}
use Rattle.anb_honest.proofs.Fitted.{fitting_send}
use Rattle.anb_honest.proofs.Rehearsed.{rehearsed}
use Rattle.anb_honest.proofs.laws.rehearsals_are_honest.Goals as goal

pub returns : goal.returns
returns c =
    let p = c.args.p.now in
    let formats : c.new.result.formats ≡ p.formats = c.new.ensures.formats ∙ c.formats.ensures in
    let suite : c.new.result.suite ≡ p.suite = c.new.ensures.suite ∙ c.suite.ensures in
    let P : List FormatValue → Type 0 = λ f. HonestPlays (byte_meaning f c.new.result.suite) in
    let Q : Suite → Type 0 = λ s. HonestPlays (byte_meaning p.formats s) in
    let plays = subst Q suite (subst P formats c.honest_plays.ensures) in
    let holds = c.protocols_hold.ensures p c.name.ensures.protocol in
    λ codes values seed atoms turns fit are all.
    rehearsed (cast p codes values seed) atoms are fit (fitting_send (cast p codes values seed) fit) holds plays c.honest_agrees.ensures c.fitting_codes_play.ensures turns all
