-- Patterns whose variables are numbered in order are one list.
use Rattle.anb_accept.proofs.Unique.{patterns_are_unique}
use Rattle.anb_accept.proofs.laws.patterns_are_unique.Goals as goal

pub returns : goal.returns
returns c = patterns_are_unique
