use Rattle.std.proofs.Common.{◌≡◌, map, take}
use Rattle.anb_intern.specs.Nodes.{operands_at}
use Rattle.anb_reason.specs.Decided.{is_among}
use Rattle.anb_reason.proofs.numbers.marks.Given as goal

abbrev pub invariant-loop-id : goal.invariant-loop-id
invariant-loop-id l = l.flags.items ≡ map (is_among (operands_at l.pool (take l.id-index l.ids))) l.pool
