use Rattle.std.proofs.Common.{◌≡◌, map, take}
use Rattle.anb_term.specs.View.{tree_of}
use Rattle.anb_report.specs.Noting.{is_none_of}
use Rattle.anb_report.proofs.others.others.Given as goal

abbrev pub invariant-loop-term : goal.invariant-loop-term
invariant-loop-term l = l.told.items ≡ map (is_none_of (map tree_of l.some)) (map tree_of (take l.term-index l.terms))
