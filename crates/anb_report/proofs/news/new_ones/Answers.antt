use Rattle.std.proofs.Common.{map}
use Rattle.anb_term.specs.View.{tree_of}
use Rattle.anb_report.proofs.Numbered.{told}
use Rattle.anb_report.proofs.news.new_ones.Goals as goal

pub returns : goal.returns
returns c =
    let numbers = c.in_ok-numbers.numbers in
    let whole = told numbers.pool (map tree_of c.args.terms.now) numbers.items.items c.len-count.ensures.distinct c.in_ok-numbers.ensures in
    rw (c.in_ok-news_of.ensures, c.deref.ensures.value, c.len-count.ensures.count) whole
