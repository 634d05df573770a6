use Rattle.std.proofs.Common.{◌≡◌, ◌++◌, drop}
use Rattle.anb_stranger.specs.Reaching.{agents_from}
use Rattle.anb_stranger.proofs.beginning.agents_among.Given as goal

abbrev pub invariant-loop-i : goal.invariant-loop-i
invariant-loop-i l = l.names.items ++ agents_from l.i (drop l.i l.atoms) ≡ agents_from 0 l.atoms
