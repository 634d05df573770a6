use Rattle.std.proofs.Common.{ℕ, ◌<◌}
use Rattle.anb_format.specs.Formats.{IsEarlyRest}
use Rattle.anb_format.proofs.formats.early_rest.Given as goal

abbrev pub invariant-loop-i : goal.invariant-loop-i
invariant-loop-i l = (k : ℕ) → k < l.i → IsEarlyRest l.pieces k → ⊥
