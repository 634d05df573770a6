-- Counted from nothing on.
use Rattle.std.proofs.Common.{List, ℕ, map, subst}
use Rattle.anb_term.specs.Tree.{trees_of}
use Rattle.anb_term.specs.View.{tree_of}
use Rattle.anb_pattern.specs.Variables.{count_in_all}
use Rattle.anb_pattern.specs.Counts.{IsCounted}
use Rattle.anb_pattern.proofs.Counting.{counted_all, counts_long}
use Rattle.anb_pattern.proofs.counts.counts_of.Goals as goal

pub returns-clause-counts : goal.returns-clause-counts
returns-clause-counts c =
    let ts = map tree_of c.args.patterns.now in
    let new = c.count_all.new.counts.items in
    counted_all c.args.names c.args.many ts new (subst (λ (l : List ℕ). IsCounted c.args.names (λ v. count_in_all v (trees_of ts)) l new) c.in_ok-counts.ensures c.count_all.ensures)

pub returns-clause-long : goal.returns-clause-long
returns-clause-long c =
    let ts = map tree_of c.args.patterns.now in
    let new = c.count_all.new.counts.items in
    counts_long c.args.names c.args.many _ new (subst (λ (l : List ℕ). IsCounted c.args.names (λ v. count_in_all v (trees_of ts)) l new) c.in_ok-counts.ensures c.count_all.ensures)
