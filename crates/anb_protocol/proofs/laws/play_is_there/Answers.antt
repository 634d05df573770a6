use Rattle.std.proofs.Common.{◌∙◌}
use Rattle.anb_plays.specs.Statements.{PlaysAreThere}
use Rattle.anb_protocol.proofs.PlayLaws.{by_parts, play_there}
use Rattle.anb_protocol.proofs.laws.play_is_there.Goals as goal

pub returns : goal.returns
returns c =
    let p = c.args.p.now in
    play_there p (by_parts PlaysAreThere p c.new.result.formats c.new.result.suite (c.new.ensures.formats ∙ c.formats.ensures) (c.new.ensures.suite ∙ c.suite.ensures) c.plays_are_there.ensures)
