-- A composition and its operands.
use Rattle.std.proofs.Common.{◌≡◌, ◌+◌, ◌<◌, [], ◌∷◌, length, map, suc, sym, ap, ◌∙◌, arith}
use Rattle.anb_term.specs.Tree.{leaf, node, tree_size, trees_size, trees_of}
use Rattle.anb_term.specs.View.{tree_of}
use Rattle.anb_term.proofs.Lists.{map-append}
use Rattle.anb_lemmas.proofs.Lists.{item_at}
use Rattle.anb_unify.proofs.Putting.{put_node}
use Rattle.anb_close.specs.MadeView.{made_tree}
use Rattle.anb_accept.specs.Equations.{over_entries}
use Rattle.anb_accept.proofs.Steps.{one_made}
use Rattle.anb_unify.proofs.Steps.{mapped_next, map_map, taken_all}
use Rattle.anb_accept.proofs.equation.+composed.Goals as goal

pub composed-composed_all-requires : goal.composed-composed_all-requires
composed-composed_all-requires t c =
    let size : tree_size (made_tree c.args.made.now) ≡ suc (trees_size (trees_of (map made_tree c.as_slice.result.now))) =
    ap (λ m. tree_size (made_tree m)) c.in-Build.is ∙ ap (λ l. suc (trees_size (trees_of l))) (sym c.as_slice.ensures) in
    (omega (arith, size, c.decreases), tt)

pub composed-returns-in_ok-terms-in-Build : goal.composed-returns-in_ok-terms-in-Build
composed-returns-in_ok-terms-in-Build t c =
    let each = c.new.ensures ∙ c.in_ok-terms-in-Build.ensures ∙ ap (map (over_entries c.args.names)) c.as_slice.ensures in
    ap (λ l. node c.in-Build.op (trees_of l)) each ∙ sym (put_node (λ i. leaf (c.args.names + i)) c.in-Build.op c.in-Build.operands) ∙ ap (λ m. over_entries c.args.names (made_tree m)) (sym c.in-Build.is)

pub composed_all-composed-requires : goal.composed_all-composed-requires
composed_all-composed-requires t c =
    let within : c.loop-made.made-index < length c.args.all.now = omega arith in
    let one = one_made c.args.all.now c.loop-made.made-index c.made-item.result (item_at c.args.all.now c.loop-made.made-index c.made-item.result within c.made-item.is) in
    (omega (arith, one, c.decreases), tt)

pub composed_all-returns : goal.composed_all-returns
composed_all-returns t c =
    c.loop-made.invariant ∙ ap (map (λ m. over_entries c.args.names (made_tree m))) (taken_all c.args.all.now c.loop-made.made-index (omega arith)) ∙ sym (map_map (over_entries c.args.names) made_tree c.args.all.now)

pub composed_all-loop-made-preserved : goal.composed_all-loop-made-preserved
composed_all-loop-made-preserved t c =
    mapped_next (λ m. over_entries c.args.names (made_tree m)) c.args.all.now c.loop-made.made-index c.made-item.result [] (map tree_of c.loop-made.terms.items) _ (tree_of c.in_ok-term.term)
    c.loop-made.invariant (omega arith) c.made-item.is (ap (map tree_of) c.in_ok-push.ensures.items ∙ map-append tree_of c.loop-made.terms.items (c.in_ok-term.term ∷ [])) c.in_ok-term.ensures
