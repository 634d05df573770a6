use Rattle.std.proofs.Common.{◌≡◌, ◌<◌, length, ap, sym, ◌∙◌, arith, subst, List, Some}
use Rattle.std.specs.Prelude.{slice_get}
use Rattle.anb_term.specs.Tree.{Tree}
use Rattle.anb_intern.specs.declared.node.Node.{Node}
use Rattle.anb_intern.specs.Nodes.{tree_at, IsOver, HasPut}
use Rattle.anb_intern.specs.Pools.{trees_at, IsPool}
use Rattle.anb_intern.specs.contracts.node.NodePartialEq.TheImpl.{eq-value}
use Rattle.anb_intern.proofs.Equality.{eq_view, view_eq}
use Rattle.anb_intern.proofs.Nodes.{length_at, put_pool, put_put, put_stands}
use Rattle.anb_intern.proofs.pool.Pool.put.Goals as goal

pub invariant_of-self : goal.invariant_of-self
invariant_of-self c = subst IsPool (sym c.in_err-put.ensures.err) c.self.invariant

pub invariant_of-self-2 : goal.invariant_of-self-2
invariant_of-self-2 c =
    let k = c.args.node in
    let P : List Tree → Type 0 = λ ts. IsOver (length ts) k × (length ts < 4294967295) in
    let h = subst P (sym c.self.view_is) (c.requires.over, c.requires.few) in
    subst IsPool (sym c.in_ok-put.ensures.keys) (put_pool c.self.inside.nodes.keys k (eq-value.it k) (view_eq k) c.self.invariant h.0 h.1)

pub returns-clause-stored : goal.returns-clause-stored
returns-clause-stored c =
    let ks = c.self.inside.nodes.keys in
    let k = c.args.node in
    let P : List Tree → Type 0 = λ ts. IsOver (length ts) k × (length ts < 4294967295) in
    let h = subst P (sym c.self.view_is) (c.requires.over, c.requires.few) in
    let pool = put_pool ks k (eq-value.it k) (view_eq k) c.self.invariant h.0 h.1 in
    let put = put_put ks k (eq-value.it k) (view_eq k) in
    let s = c.in_ok-put.ensures.stored in
    let Q : List Node → Type 0 = λ ls. slice_get ls c.in_ok-put.put.0 ≡ Some s.0 in
    let R : List Tree → Type 0 = λ ts. slice_get (trees_at c.insert_full.new.self.keys) c.in_ok-put.put.0 ≡ Some (tree_at ts k) in
    subst R c.self.view_is (ap (λ ls. slice_get (trees_at ls) c.in_ok-put.put.0) c.in_ok-put.ensures.keys ∙ put_stands ks _ k s.0 c.in_ok-put.put.0 pool h.0 put (subst Q c.in_ok-put.ensures.keys s.1) (eq_view k s.0 s.2))

pub returns-clause-put : goal.returns-clause-put
returns-clause-put c =
    let ks = c.self.inside.nodes.keys in
    let k = c.args.node in
    let P : List Tree → Type 0 = λ ts. HasPut ts (tree_at ts k) (trees_at c.insert_full.new.self.keys) in
    let Q : List Node → Type 0 = λ ls. HasPut (trees_at ks) (tree_at (trees_at ks) k) (trees_at ls) in
    subst P c.self.view_is (subst Q (sym c.in_ok-put.ensures.keys) (put_put ks k (eq-value.it k) (view_eq k)))
