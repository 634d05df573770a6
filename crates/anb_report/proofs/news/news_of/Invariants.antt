use Rattle.std.proofs.Common.{◌≡◌, ◌++◌, drop, false, replicate}
use Rattle.anb_report.specs.News.{news}
use Rattle.anb_report.proofs.news.news_of.Given as goal

abbrev pub invariant-loop-n : goal.invariant-loop-n
invariant-loop-n l = l.out.items ++ news l.marks.items (drop l.n-index l.numbers) ≡ news (replicate l.count false) l.numbers
