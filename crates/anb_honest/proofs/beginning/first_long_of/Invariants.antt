use Rattle.std.proofs.Common.{◌≡◌, drop}
use Rattle.anb_protocol.specs.Choices.{first}
use Rattle.anb_honest.specs.Joint.{long_end}
use Rattle.anb_honest.proofs.beginning.first_long_of.Given as goal

abbrev pub invariant-loop-value : goal.invariant-loop-value
invariant-loop-value l = first (long_end 0) (drop l.value-index l.values) ≡ first (long_end 0) l.values
