use Rattle.std.proofs.Common.{map, take}
use Rattle.anb_term.specs.View.{tree_of}
use Rattle.anb_report.specs.News.{Numbered}
use Rattle.anb_report.proofs.news.numbers_of.Given as goal

abbrev pub invariant-loop-term : goal.invariant-loop-term
invariant-loop-term l = Numbered l.pool (map tree_of (take l.term-index l.terms)) l.items.items
