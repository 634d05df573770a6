use Rattle.std.proofs.Common.{◌∙◌}
use Rattle.anb_plays.specs.Statements.{HonestAgree}
use Rattle.anb_protocol.proofs.PlayLaws.{by_parts, honest_agreed}
use Rattle.anb_protocol.proofs.laws.honest_agrees.Goals as goal

pub returns : goal.returns
returns c =
    let p = c.args.p.now in
    honest_agreed p (by_parts HonestAgree p c.new.result.formats c.new.result.suite (c.new.ensures.formats ∙ c.formats.ensures) (c.new.ensures.suite ∙ c.suite.ensures) c.honest_agree.ensures)
