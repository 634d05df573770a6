-- One term more gets its numbers.
use Rattle.std.proofs.Common.{◌<◌, [], ◌∷◌, List, length, map, take, sym, ap, ◌∙◌, subst, arith}
use Rattle.anb_lemmas.proofs.Lists.{item_at, take_got}
use Rattle.anb_term.specs.declared.term.Term.{Term}
use Rattle.anb_term.specs.Tree.{Tree, node, trees_of}
use Rattle.anb_term.specs.View.{tree_of}
use Rattle.anb_term.proofs.Lists.{one_size, map-append}
use Rattle.anb_accept.specs.Renaming.{GotNumbers, AllGotNumbers}
use Rattle.anb_accept.proofs.Renaming.{none_numbered, one_numbered, node_numbered}
use Rattle.anb_unify.proofs.Steps.{taken_all}
use Rattle.anb_accept.proofs.numbering.+number.Goals as goal

pub number_all-number-requires : goal.number_all-number-requires
number_all-number-requires t c =
    let one = one_size c.args.ts.now c.loop-t.t-index c.t-item.result (omega arith) c.t-item.is in omega (arith, one, c.decreases)

pub number_all-loop-t-init : goal.number_all-loop-t-init
number_all-loop-t-init t c = none_numbered c.args.names c.args.pool.now (map tree_of c.new-out.result.items) (ap (map tree_of) c.new-out.ensures.items)

pub number_all-loop-t-preserved : goal.number_all-loop-t-preserved
number_all-loop-t-preserved t c =
    let ts = c.args.ts.now in
    let i = c.loop-t.t-index in
    let x = c.t-item.result in
    let within : i < length ts = omega arith in
    let more = ap (map tree_of) (take_got ts i x (item_at ts i x within c.t-item.is)) ∙ map-append tree_of (take i ts) (x ∷ []) in
    let put = ap (map tree_of) c.in_ok-push.ensures.items ∙ map-append tree_of c.loop-t.out.items (c.in_ok-term.term ∷ []) in
    one_numbered c.args.names c.args.pool.now c.loop-t.pool c.number.new.pool (map tree_of (take i ts)) _ (map tree_of c.loop-t.out.items) _ (tree_of x) (tree_of c.in_ok-term.term)
    c.loop-t.invariant c.in_ok-term.ensures more put

pub number_all-returns : goal.number_all-returns
number_all-returns t c =
    subst (λ (l : List Term). AllGotNumbers c.args.names c.args.pool.now c.loop-t.pool (trees_of (map tree_of l)) (trees_of (map tree_of c.loop-t.out.items)))
    (taken_all c.args.ts.now c.loop-t.t-index (omega arith)) c.loop-t.invariant

pub number-returns-in_ok-operands-in-Node : goal.number-returns-in_ok-operands-in-Node
number-returns-in_ok-operands-in-Node t c =
    let names = c.args.names in
    let old = c.args.pool.now in
    let new = c.number_all.new.pool in
    let o = c.in-Node.op in
    let P : Term → Type 0 = λ u. GotNumbers names old new (tree_of u) (node o (trees_of c.new.result)) in
    let all = node_numbered names old new (map tree_of c.as_slice.result.now) (map tree_of c.in_ok-operands-in-Node.operands.items) o c.in_ok-operands-in-Node.ensures in
    let one = subst (λ (us : List Tree). GotNumbers names old new (node o (trees_of (map tree_of c.as_slice.result.now))) (node o (trees_of us))) (sym c.new.ensures) all in
    subst P (sym c.in-Node.is) (subst (λ (ts : List Tree). GotNumbers names old new (node o (trees_of ts)) (node o (trees_of c.new.result))) c.as_slice.ensures one)
