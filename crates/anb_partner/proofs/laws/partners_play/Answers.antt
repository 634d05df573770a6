use Rattle.std.proofs.Common.{◌≡◌, List, subst, ◌∙◌}
use Rattle.anb_base.specs.declared.content.Suite.{Suite}
use Rattle.anb_format.specs.Formats.{FormatValue}
use Rattle.anb_algebra.specs.ByteMeaning.{byte_meaning}
use Rattle.anb_plays.specs.Statements.{RunsAsPlayed}
use Rattle.anb_partner.proofs.Played.{partners_play}
use Rattle.anb_partner.proofs.laws.partners_play.Goals as goal

pub returns : goal.returns
returns c =
    let p = c.args.p.now in
    let e = c.new.ensures in
    let formats : c.new.result.formats ≡ p.formats = e.formats ∙ c.formats.ensures in
    let suite : c.new.result.suite ≡ p.suite = e.suite ∙ c.suite.ensures in
    let P : List FormatValue → Type 0 = λ f. RunsAsPlayed (byte_meaning f c.new.result.suite) in
    let Q : Suite → Type 0 = λ s. RunsAsPlayed (byte_meaning p.formats s) in
    partners_play p (subst Q suite (subst P formats c.runs_as_played.ensures))
