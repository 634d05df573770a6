-- A term and its operands.
use Rattle.std.proofs.Common.{◌≡◌, ◌<◌, length, map, suc, sym, ap, ◌∙◌, arith}
use Rattle.anb_term.specs.Tree.{node, tree_size, trees_size, trees_of}
use Rattle.anb_term.specs.View.{tree_of}
use Rattle.anb_term.proofs.Lists.{one_size, one_term}
use Rattle.std.proofs.lemmas.List.{take_all}
use Rattle.std.proofs.lemmas.Simd.{map-map}
use Rattle.anb_openings.specs.Openings.{spared}
use Rattle.anb_openings.proofs.Spared.{spared_same, spared_node}
use Rattle.anb_openings.proofs.sparing.+spared.Goals as goal

pub spared-all_spared-requires : goal.spared-all_spared-requires
spared-all_spared-requires t c =
    let size : tree_size (tree_of c.args.term.now) ≡ suc (trees_size (trees_of (map tree_of c.as_slice.result.now))) =
    ap (λ m. tree_size (tree_of m)) c.in-Node.is ∙ ap (λ l. suc (trees_size (trees_of l))) (sym c.as_slice.ensures) in
    (omega (arith, size, c.decreases), tt)

pub all_spared-spared-requires : goal.all_spared-spared-requires
all_spared-spared-requires t c =
    let within : c.loop-term.term-index < length c.args.terms.now = omega arith in
    let one = one_size c.args.terms.now c.loop-term.term-index c.term-item.result within c.term-item.is in
    (omega (arith, one, c.decreases), tt)

pub all_spared-returns : goal.all_spared-returns
all_spared-returns t c =
    let s = spared c.args.spare (tree_of c.args.opened.now) in
    c.loop-term.invariant ∙ ap (map (λ p. s (tree_of p))) (take_all c.loop-term.term-index c.args.terms.now (omega arith)) ∙ sym (map-map s tree_of c.args.terms.now)

pub spared-returns-then-same : goal.spared-returns-then-same
spared-returns-then-same t c = sym (spared_same c.args.spare (tree_of c.args.opened.now) (tree_of c.args.term.now) (ap tree_of (c.same.ensures.0 c.if-same.true)))

pub spared-returns-in_ok-operands-in-Node : goal.spared-returns-in_ok-operands-in-Node
spared-returns-in_ok-operands-in-Node t c =
    let spare = c.args.spare in
    let opened = tree_of c.args.opened.now in
    let ops = c.in-Node.operands in
    let is : tree_of c.args.term.now ≡ node c.in-Node.op (trees_of ops) = ap tree_of c.in-Node.is in
    let apart : node c.in-Node.op (trees_of ops) ≡ opened → ⊥ = λ e. (let same = c.same.ensures.1 (one_term c.args.term.now c.args.opened.now (is ∙ e)) in let not = c.if-same.false in cc) in
    let new : c.new.result ≡ map (spared spare opened) ops = c.new.ensures ∙ c.in_ok-operands-in-Node.ensures ∙ ap (map (spared spare opened)) c.as_slice.ensures in
    ap (λ l. node c.in-Node.op (trees_of l)) new ∙ sym (spared_node spare opened c.in-Node.op ops apart) ∙ ap (spared spare opened) (sym is)
