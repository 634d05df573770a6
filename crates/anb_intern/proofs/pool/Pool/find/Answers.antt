use Rattle.std.proofs.Common.{◌≡◌, ℕ, length, ap, sym, ◌∙◌, arith, subst, List, Some, false, is_some, get_or}
use Rattle.std.specs.Prelude.{slice_get}
use Rattle.std.specs.List.{list_any}
use Rattle.std.proofs.lemmas.Option.{slice_get-get_or}
use Rattle.std.proofs.lemmas.List.Quantifiers.{position-Some}
use Rattle.anb_term.specs.Tree.{Tree}
use Rattle.anb_intern.specs.Nodes.{tree_at, IsOver}
use Rattle.anb_intern.specs.contracts.node.NodePartialEq.TheImpl.{eq-value}
use Rattle.anb_intern.proofs.Equality.{eq_view, view_eq}
use Rattle.anb_intern.proofs.Nodes.{not_found, found_there}
use Rattle.anb_intern.proofs.pool.Pool.find.Goals as goal

pub returns-in-None : goal.returns-in-None
returns-in-None c =
    let ks = c.self.inside.nodes.keys in
    let k = c.args.node.now in
    let none : list_any (eq-value.it k) ks ≡ false = sym c.get_index_of.ensures.found ∙ ap is_some c.in-None.is in
    let P : List Tree → Type 0 = λ ts. IsOver (length ts) k → (i : ℕ) → slice_get ts i ≡ Some (tree_at ts k) → ⊥ in
    subst P c.self.view_is (λ over i at. not_found ks k i (eq-value.it k) c.self.invariant (view_eq k) none over at)

pub returns-in-Some : goal.returns-in-Some
returns-in-Some c =
    let ks = c.self.inside.nodes.keys in
    let k = c.args.node.now in
    let i = c.in-Some.at in
    let at = position-Some (eq-value.it k) ks i k (sym c.get_index_of.ensures.index ∙ c.in-Some.is) in
    let P : List Tree → Type 0 = λ ts. IsOver (length ts) k × (slice_get ts i ≡ Some (tree_at ts k)) in
    subst P c.self.view_is (found_there ks k i (get_or ks i k) c.self.invariant (slice_get-get_or ks i k at.0) (eq_view k (get_or ks i k) at.1))
