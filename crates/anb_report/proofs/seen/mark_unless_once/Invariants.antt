use Rattle.std.proofs.Common.{◌≡◌, drop, get_or, true}
use Rattle.std.specs.Prelude.{◌&&◌, filter, not}
use Rattle.anb_protocol.specs.Seen.{marked}
use Rattle.anb_report.proofs.seen.mark_unless_once.Given as goal

abbrev pub invariant-loop-r : goal.invariant-loop-r
invariant-loop-r l = marked l.marks.items (filter (λ r. not (get_or l.came r true && not (get_or l.twice r true))) (drop l.r-index l.registers)) ≡ marked l.initial.marks.items (filter (λ r. not (get_or l.came r true && not (get_or l.twice r true))) l.registers)
