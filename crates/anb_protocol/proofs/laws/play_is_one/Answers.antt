use Rattle.std.proofs.Common.{◌∙◌}
use Rattle.anb_plays.specs.Statements.{PlaysAreOne}
use Rattle.anb_protocol.proofs.PlayLaws.{by_parts, play_once}
use Rattle.anb_protocol.proofs.laws.play_is_one.Goals as goal

pub returns : goal.returns
returns c =
    let p = c.args.p.now in
    play_once p (by_parts PlaysAreOne p c.new.result.formats c.new.result.suite (c.new.ensures.formats ∙ c.formats.ensures) (c.new.ensures.suite ∙ c.suite.ensures) c.plays_are_one.ensures)
