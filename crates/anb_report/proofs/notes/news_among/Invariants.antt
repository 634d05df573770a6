use Rattle.std.proofs.Common.{◌≡◌, ◌++◌, drop, map}
use Rattle.std.specs.Prelude.{filter}
use Rattle.anb_term.specs.View.{tree_of}
use Rattle.anb_report.specs.Noting.{is_new}
use Rattle.anb_report.proofs.notes.news_among.Given as goal

abbrev pub invariant-loop-r : goal.invariant-loop-r
invariant-loop-r l = l.out.items ++ filter (is_new (map tree_of l.terms) l.built) (drop l.r-index l.registers) ≡ filter (is_new (map tree_of l.terms) l.built) l.registers
