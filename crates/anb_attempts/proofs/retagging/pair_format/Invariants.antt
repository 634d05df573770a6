use Rattle.std.proofs.Common.{◌≡◌, drop}
use Rattle.anb_attempts.specs.Retagging.{pair_from}
use Rattle.anb_attempts.proofs.retagging.pair_format.Given as goal

abbrev pub invariant-loop-i : goal.invariant-loop-i
invariant-loop-i l = pair_from l.i (drop l.i l.formats) ≡ pair_from 0 l.formats
