-- Labels of the one conversation are seen in the other.
use Rattle.anb_stranger.proofs.Hearing.{heard_are_patterns}
use Rattle.anb_stranger.proofs.laws.heard_are_patterns.Goals as goal

pub returns : goal.returns
returns c = heard_are_patterns
