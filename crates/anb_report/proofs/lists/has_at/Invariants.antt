use Rattle.std.proofs.Common.{◌≡◌, map, take, false}
use Rattle.std.specs.List.{list_any}
use Rattle.anb_term.specs.View.{tree_of}
use Rattle.anb_report.specs.Noting.{is_term_of}
use Rattle.anb_report.proofs.lists.has_at.Given as goal

abbrev pub invariant-loop-r : goal.invariant-loop-r
invariant-loop-r l = list_any (is_term_of (map tree_of l.terms) (tree_of l.term)) (take l.r-index l.registers) ≡ false
