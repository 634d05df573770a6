use Rattle.std.proofs.Common.{◌≡◌, ◌≤◌, ◌+◌, ◌-◌, length, drop}
use Rattle.std.specs.List.{prefix_len}
use Rattle.anb_read.proofs.GoingOn.{begins_before}
use Rattle.anb_read.proofs.expecting.before.Given as goal

abbrev pub invariant-earlier : goal.invariant-earlier
invariant-earlier l = record { within : l.n ≤ length l.places; passed : prefix_len (begins_before l.at) l.places ≡ l.n + prefix_len (begins_before l.at) (drop l.n l.places) }

abbrev pub decreases-earlier : goal.decreases-earlier
decreases-earlier l = length l.places - l.n
