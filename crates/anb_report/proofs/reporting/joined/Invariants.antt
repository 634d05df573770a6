use Rattle.std.proofs.Common.{◌≡◌, ◌++◌, drop}
use Rattle.anb_report.specs.Reporting.{joined}
use Rattle.anb_report.proofs.reporting.joined.Given as goal

abbrev pub invariant-loop-event : goal.invariant-loop-event
invariant-loop-event l = l.out.items ++ joined l.event (drop l.event l.notes) l.further ≡ joined 0 l.notes l.further
