use Rattle.std.proofs.Common.{◌≡◌, drop}
use Rattle.std.specs.List.{flat_map}
use Rattle.anb_protocol.specs.Choices.{first}
use Rattle.anb_honest.specs.Given.{items_of}
use Rattle.anb_honest.specs.Joint.{long_end}
use Rattle.anb_honest.proofs.beginning.first_long.Given as goal

abbrev pub invariant-loop-values : goal.invariant-loop-values
invariant-loop-values l = first (long_end 0) (flat_map items_of (drop l.values-index l.fn.initial)) ≡ first (long_end 0) (flat_map items_of l.fn.initial)
