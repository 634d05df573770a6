-- A term and its operands.
use Rattle.std.proofs.Common.{◌≡◌, ◌<◌, length, map, suc, sym, ap, ◌∙◌, arith}
use Rattle.anb_term.specs.Tree.{node, tree_size, trees_size, trees_of}
use Rattle.anb_term.specs.View.{tree_of}
use Rattle.anb_term.proofs.Lists.{one_size}
use Rattle.anb_unify.specs.Substitutions.{put_in}
use Rattle.anb_unify.proofs.Putting.{put_node}
use Rattle.anb_unify.proofs.Steps.{map_map, taken_all}
use Rattle.anb_attempts.specs.Inner.{in_place_of}
use Rattle.anb_attempts.proofs.inner.+put.Goals as goal

pub put-put_all-requires : goal.put-put_all-requires
put-put_all-requires t c =
    let size : tree_size (tree_of c.args.t.now) ≡ suc (trees_size (trees_of (map tree_of c.as_slice.result.now))) =
    ap (λ m. tree_size (tree_of m)) c.in-Node.is ∙ ap (λ l. suc (trees_size (trees_of l))) (sym c.as_slice.ensures) in
    (omega (arith, size, c.decreases), tt)

pub put_all-put-requires : goal.put_all-put-requires
put_all-put-requires t c =
    let within : c.loop-t.t-index < length c.args.terms.now = omega arith in
    let one = one_size c.args.terms.now c.loop-t.t-index c.t-item.result within c.t-item.is in
    (omega (arith, one, c.decreases), tt)

pub put-returns-in_ok-operands-in-Node : goal.put-returns-in_ok-operands-in-Node
put-returns-in_ok-operands-in-Node t c =
    let s = in_place_of c.args.spare (tree_of c.args.other.now) in
    let each = c.new.ensures ∙ c.in_ok-operands-in-Node.ensures ∙ ap (map (put_in s)) c.as_slice.ensures in
    ap (λ l. node c.in-Node.op (trees_of l)) each ∙ sym (put_node s c.in-Node.op c.in-Node.operands) ∙ ap (λ m. put_in s (tree_of m)) (sym c.in-Node.is)

pub put_all-returns : goal.put_all-returns
put_all-returns t c =
    let s = in_place_of c.args.spare (tree_of c.args.other.now) in
    c.loop-t.invariant ∙ ap (map (λ p. put_in s (tree_of p))) (taken_all c.args.terms.now c.loop-t.t-index (omega arith)) ∙ sym (map_map (put_in s) tree_of c.args.terms.now)
