use Rattle.std.proofs.Common.{◌≡◌, take}
use Rattle.anb_accept.specs.Equations.{heard_entries}
use Rattle.anb_accept.proofs.patterns.heard_entries.Given as goal

abbrev pub invariant-loop-i : goal.invariant-loop-i
invariant-loop-i l = l.out.items ≡ heard_entries l.heard 0 (take l.i l.entries)
