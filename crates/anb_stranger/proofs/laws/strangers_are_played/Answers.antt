-- Values follow the terms of the conversation.
use Rattle.anb_stranger.proofs.Playing.{strangers_are_played}
use Rattle.anb_stranger.proofs.laws.strangers_are_played.Goals as goal

pub returns : goal.returns
returns g c = strangers_are_played (g.A.Algebra.meaning c.args.a.now) c.honest_agree.ensures c.one_value_is_given.ensures
