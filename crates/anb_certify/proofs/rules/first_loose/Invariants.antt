use Rattle.std.proofs.Common.{◌<◌, ℕ, map}
use Rattle.anb_intern.specs.Nodes.{operands_at}
use Rattle.anb_certify.specs.Tied.{KeepsRules}
use Rattle.anb_certify.specs.Works.{did_of}
use Rattle.anb_certify.proofs.rules.first_loose.Given as goal

abbrev pub invariant-loop-i : goal.invariant-loop-i
invariant-loop-i l = (k : ℕ) → k < l.i → KeepsRules (map did_of l.done) (operands_at l.pool l.ids) k
