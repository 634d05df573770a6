-- The same patterns by other names of their variables.
use Rattle.std.proofs.Common.{List, map, subst}
use Rattle.anb_term.specs.Tree.{Tree, trees_of}
use Rattle.anb_term.specs.View.{tree_of}
use Rattle.anb_accept.specs.Renaming.{AllGotNumbers}
use Rattle.anb_accept.proofs.Renaming.{renamed_patterns, all_numbered}
use Rattle.anb_accept.proofs.numbering.numbered.Goals as goal

pub returns-clause-same : goal.returns-clause-same
returns-clause-same c has plan are =
    renamed_patterns c.args.names c.number_all.new.pool (map tree_of c.args.patterns.now) (map tree_of c.in_ok-all.all.items) has plan c.len.ensures.distinct c.in_ok-all.ensures.renamed are

pub returns-clause-numbered : goal.returns-clause-numbered
returns-clause-numbered c =
    let pool = c.number_all.new.pool in
    let ts = map tree_of c.args.patterns.now in
    let us = map tree_of c.in_ok-all.all.items in
    all_numbered c.args.names pool ts us (subst (λ (old : List Tree). AllGotNumbers c.args.names old pool (trees_of ts) (trees_of us)) c.new-pool.ensures c.in_ok-all.ensures)
