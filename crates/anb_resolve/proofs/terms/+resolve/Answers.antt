use Rattle.std.proofs.Common.{◌≡◌, ◌++◌, List, [], length, map, drop, ap, sym, ◌∙◌, arith, append-nil}
use Rattle.std.proofs.lemmas.List.{drop_all}
use Rattle.anb_term.specs.Tree as term
use Rattle.anb_term.specs.TreeSame.{trees_of-list_of}
use Rattle.anb_term.specs.View.{tree_of as term_tree}
use Rattle.anb_syntax.specs.declared.narration.Tree.{Tree}
use Rattle.anb_syntax.specs.Grammar.{trees_of}
use Rattle.anb_syntax.specs.Views.{tree_of}
use Rattle.anb_protocol.specs.Protocols.{resolved_all}
use Rattle.anb_resolve.proofs.terms.+resolve.Goals as goal

pub resolved_all-returns-clause-trees : goal.resolved_all-returns-clause-trees
resolved_all-returns-clause-trees t c =
    let items = c.args.trees.now.items in
    let i = c.loop-tree.tree-index in
    let terms = map term_tree c.loop-tree.terms.items in
    let whole = resolved_all c.args.atoms.now c.args.formats.now (trees_of (map tree_of items)) in
    let done : drop i items ≡ [] = drop_all i items (omega (arith, c.loop-tree-test.false, ap length c.deref-tree-items.ensures.value)) in
    let all : terms ≡ term.list_of whole =
    sym (append-nil terms) ∙ ap (λ (rest : List Tree). terms ++ term.list_of (resolved_all c.args.atoms.now c.args.formats.now (trees_of (map tree_of rest)))) (sym done) ∙ c.loop-tree.invariant in
    ap term.trees_of (c.new.ensures ∙ all) ∙ trees_of-list_of whole

pub resolved_all-returns-clause-list : goal.resolved_all-returns-clause-list
resolved_all-returns-clause-list t c =
    let items = c.args.trees.now.items in
    let i = c.loop-tree.tree-index in
    let terms = map term_tree c.loop-tree.terms.items in
    let done : drop i items ≡ [] = drop_all i items (omega (arith, c.loop-tree-test.false, ap length c.deref-tree-items.ensures.value)) in
    c.new.ensures ∙ sym (append-nil terms) ∙ ap (λ (rest : List Tree). terms ++ term.list_of (resolved_all c.args.atoms.now c.args.formats.now (trees_of (map tree_of rest)))) (sym done) ∙ c.loop-tree.invariant
