use Rattle.std.proofs.Common.{◌≡◌, ◌≤◌, length, Some, arith, sym, ◌∙◌, ap}
use Rattle.std.proofs.lemmas.List.{take_all}
use Rattle.anb_term.specs.Lawful.{picked}
use Rattle.anb_term.specs.RecipeView.{first_places}
use Rattle.anb_term.specs.Operator.{arity}
use Rattle.anb_term.proofs.Places.{length_first, all_first, picked_first, build_if_is}
use Rattle.anb_term.proofs.recipe.build_of.Goals as goal

pub build-requires-clause-within : goal.build-requires-clause-within
build-requires-clause-within g c =
    let n = c.arity-2.result in
    let h : n ≤ length c.deref.result.now = omega (arith, c.args.operands.now.ok.0, ap length c.deref.ensures.value) in
    rw (c.deref-2.ensures.value, c.in_ok-at.ensures) (all_first n _ h)

pub build-requires-clause-count : goal.build-requires-clause-count
build-requires-clause-count g c = rw (c.deref-2.ensures.value, c.in_ok-at.ensures, length_first) c.arity-2.ensures

pub returns : goal.returns
returns g c =
    let m = g.A.Algebra.meaning c.args.a.now in
    let xs = c.args.operands.now.items in
    let n = c.arity-2.result in
    let count : length xs ≡ arity c.args.op = omega (arith, c.args.operands.now.ok.0) in
    let all : picked xs (first_places n) ≡ xs = picked_first n xs (omega arith) ∙ take_all n xs (omega arith) in
    let at : picked c.deref.result.now c.deref-2.result.now ≡ xs = rw (c.deref.ensures.value, c.deref-2.ensures.value, c.in_ok-at.ensures) all in
    ap Some (c.in_ok-build.ensures ∙ ap (m.built c.args.op) at) ∙ sym (build_if_is m c.args.op c.requires xs count)
