use Rattle.std.proofs.Common.{◌≡◌, ◌<◌, length, Some, ap, sym, ◌∙◌, subst, arith, get_or, List}
use Rattle.std.specs.Prelude.{slice_get}
use Rattle.anb_term.specs.Tree.{Tree}
use Rattle.anb_term.proofs.Lists.{slice_get-at}
use Rattle.anb_intern.specs.Nodes.{tree_at, IsOver}
use Rattle.anb_intern.proofs.Nodes.{length_at, stands}
use Rattle.anb_intern.proofs.pool.Pool.get.Goals as goal

pub bounds-as_slice-id : goal.bounds-as_slice-id
bounds-as_slice-id c = omega (arith, c.requires, length_at c.self.inside.nodes.keys, ap length c.self.view_is, ap length c.as_slice.ensures.keys)

pub returns-clause-stands : goal.returns-clause-stands
returns-clause-stands c =
    let ks = c.self.inside.nodes.keys in
    let k = c.index-as_slice-id.result in
    let own : k ≡ get_or ks c.args.id.0 k = c.index-as_slice-id.is ∙ ap (λ l. get_or l c.args.id.0 k) c.as_slice.ensures.keys in
    let here = slice_get-at ks c.args.id.0 k (omega (arith, c.requires, length_at ks, ap length c.self.view_is)) own in
    let P : List Tree → Type 0 = λ ts. slice_get ts c.args.id.0 ≡ Some (tree_at ts k) in
    subst P c.self.view_is (stands ks c.self.invariant c.args.id.0 k here)

pub returns-clause-before : goal.returns-clause-before
returns-clause-before c =
    let ks = c.self.inside.nodes.keys in
    let k = c.index-as_slice-id.result in
    let own : k ≡ get_or ks c.args.id.0 k = c.index-as_slice-id.is ∙ ap (λ l. get_or l c.args.id.0 k) c.as_slice.ensures.keys in
    c.self.invariant.over c.args.id.0 k (slice_get-at ks c.args.id.0 k (omega (arith, c.requires, length_at ks, ap length c.self.view_is)) own)
