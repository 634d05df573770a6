use Rattle.std.proofs.Common.{◌≡◌, [], map, drop}
use Rattle.anb_term.specs.View.{tree_of}
use Rattle.anb_report.specs.Noting.{once_after}
use Rattle.anb_report.proofs.lists.once.Given as goal

abbrev pub invariant-loop-r : goal.invariant-loop-r
invariant-loop-r l = once_after (map tree_of l.terms) l.out.items (drop l.r-index l.registers) ≡ once_after (map tree_of l.terms) [] l.registers
