-- The operands that a term was told to have.
use Rattle.std.proofs.Common.{◌≡◌, map, drop, sym, ap, ◌∙◌}
use Rattle.anb_term.specs.Tree.{node, trees_of, list_of}
use Rattle.anb_term.specs.TreeSame.{list_of-trees_of, terms_trees}
use Rattle.anb_term.specs.View.{tree_of}
use Rattle.anb_openings.proofs.Gone.{ok_more}
use Rattle.anb_openings.proofs.undoing.operands_behind.Goals as goal

pub returns-in-Node : goal.returns-in-Node
returns-in-Node c =
    let ops = c.in-Node.operands in
    ok_more c.copy_from.result _ _ (λ v h. λ o ts e.
    let both : node c.in-Node._op (trees_of ops) ≡ node o (trees_of ts) = sym (ap tree_of c.in-Node.is) ∙ e in
    let trees : trees_of ops ≡ trees_of ts = cc in
    let same : ops ≡ ts = sym (list_of-trees_of ops) ∙ ap list_of trees ∙ list_of-trees_of ts in
    ap (map tree_of) h ∙ terms_trees (drop c.args.keys ops) ∙ ap (drop c.args.keys) same) c.copy_from.ensures
