-- Two terms by their form, and two lists of them place by place.
use Rattle.std.proofs.Common.{◌≡◌, ℕ, suc, ◌<◌, List, length, map, Option, Some, None, sym, ap, ◌∙◌, subst, arith}
use Rattle.std.specs.Option.{MatchOption}
use Rattle.std.specs.Prelude.{slice_get}
use Rattle.std.proofs.lemmas.List.{length-map}
use Rattle.anb_lemmas.proofs.Lists.{item_at}
use Rattle.anb_term.specs.declared.term.Term.{Term}
use Rattle.anb_term.specs.Tree.{node, trees_of, tree_size, trees_size}
use Rattle.anb_term.specs.View.{tree_of}
use Rattle.anb_term.proofs.Lists.{one_size, slice_get-map}
use Rattle.anb_unify.specs.Substitutions.{put_in}
use Rattle.anb_distinguish.specs.Apart.{MakesOne, MakesAllOne, AreAllOneFor, TellsApart, TellsAllApart}
use Rattle.anb_distinguish.proofs.Telling.{one_below, nodes_told, one_at, told_at, same_next}
use Rattle.anb_distinguish.proofs.apart.+apart.Goals as goal

-- as many of both
as_many : (names : ℕ) (ones others : List Term) → AreAllOneFor names (map tree_of ones) (map tree_of others) → length ones ≡ length others
as_many names ones others all =
    let e = ap length all.1.same in
    sym (length-map ones tree_of) ∙ sym (length-map (map tree_of ones) (put_in all.0)) ∙ e ∙ length-map (map tree_of others) (put_in all.0) ∙ length-map others tree_of

tree_at : (ts : List Term) (i : ℕ) (t : Term) → slice_get ts i ≡ Some t → slice_get (map tree_of ts) i ≡ Some (tree_of t)
tree_at ts i t e = slice_get-map tree_of ts i t e

match_as : {A : Type 0} (o : Option A) (P R : Type 0) (Q S : A → Type 0) → (P → R) → ((x : A) → Q x → S x) → MatchOption o P Q → MatchOption o R S
match_as None P R Q S f g m = f m
match_as (Some x) P R Q S f g m = g x m

pub first_apart-variable_apart-requires : goal.first_apart-variable_apart-requires
first_apart-variable_apart-requires t c =
    let ones = c.args.ones.now in
    let others = c.args.others.now in
    let i = c.loop-i.i in
    let within : i < length ones = omega arith in
    let there : i < length others = omega (arith, within, as_many c.args.spare ones others c.requires) in
    let one = one_size ones i c.index-ones-i.result within c.index-ones-i.is in
    let a = tree_at ones i c.index-ones-i.result (item_at ones i c.index-ones-i.result within c.index-ones-i.is) in
    let b = tree_at others i c.index-others-i.result (item_at others i c.index-others-i.result there c.index-others-i.is) in
    (omega (arith, one, c.decreases), (c.requires.0, one_at c.args.spare c.requires.0 (map tree_of ones) (map tree_of others) i (tree_of c.index-ones-i.result) (tree_of c.index-others-i.result) c.requires.1 a b))

pub first_apart-returns-in-Some : goal.first_apart-returns-in-Some
first_apart-returns-in-Some t c =
    let ones = c.args.ones.now in
    let others = c.args.others.now in
    let i = c.loop-i.i in
    let within : i < length ones = omega arith in
    let there : i < length others = omega (arith, within, as_many c.args.spare ones others c.requires) in
    let a = tree_at ones i c.index-ones-i.result (item_at ones i c.index-ones-i.result within c.index-ones-i.is) in
    let b = tree_at others i c.index-others-i.result (item_at others i c.index-others-i.result there c.index-others-i.is) in
    told_at c.args.spare c.in-Some.v (map tree_of ones) (map tree_of others) i (tree_of c.index-ones-i.result) (tree_of c.index-others-i.result) a b c.in-Some.ensures

pub first_apart-loop-i-preserved : goal.first_apart-loop-i-preserved
first_apart-loop-i-preserved t c =
    let ones = c.args.ones.now in
    let others = c.args.others.now in
    let i = c.loop-i.i in
    let within : i < length ones = omega arith in
    let there : i < length others = omega (arith, within, as_many c.args.spare ones others c.requires) in
    let a = tree_at ones i c.index-ones-i.result (item_at ones i c.index-ones-i.result within c.index-ones-i.is) in
    let b = tree_at others i c.index-others-i.result (item_at others i c.index-others-i.result there c.index-others-i.is) in
    same_next (map tree_of ones) (map tree_of others) i (tree_of c.index-ones-i.result) (tree_of c.index-others-i.result) a b c.loop-i.invariant c.in_default.ensures

pub variable_apart-first_apart-requires : goal.variable_apart-first_apart-requires
variable_apart-first_apart-requires t c =
    let o = c.in-Node.field-0 in
    let p = c.in-Node-other-2.field-0 in
    let xs = c.in-Node.ones in
    let ys = c.in-Node-other-2.others in
    let honest = c.requires.0 in
    let na : tree_of c.args.one.now ≡ node o (trees_of xs) = ap tree_of c.in-Node.is in
    let nb : tree_of c.args.other.now ≡ node p (trees_of ys) = ap tree_of c.in-Node-other-2.is in
    let size : tree_size (tree_of c.args.one.now) ≡ suc (trees_size (trees_of (map tree_of c.as_slice.result.now))) = ap tree_size na ∙ ap (λ l. suc (trees_size (trees_of l))) (sym c.as_slice.ensures) in
    let m : MakesOne c.args.spare honest (node o (trees_of xs)) (node p (trees_of ys)) =
    subst (λ u. MakesOne c.args.spare honest u (node p (trees_of ys))) na (subst (MakesOne c.args.spare honest (tree_of c.args.one.now)) nb c.requires.1) in
    let all = (one_below c.args.spare honest o p xs ys m).below in (
      omega (arith, size, c.decreases),
      (honest, subst (λ l. MakesAllOne c.args.spare honest l (map tree_of c.as_slice-in-Node-other-2.result.now)) (sym c.as_slice.ensures) (subst (MakesAllOne c.args.spare honest xs) (sym c.as_slice-in-Node-other-2.ensures) all)),
    )

pub variable_apart-returns-in-Node-other-2 : goal.variable_apart-returns-in-Node-other-2
variable_apart-returns-in-Node-other-2 t c =
    let o = c.in-Node.field-0 in
    let p = c.in-Node-other-2.field-0 in
    let xs = c.in-Node.ones in
    let ys = c.in-Node-other-2.others in
    let honest = c.requires.0 in
    let ps = map tree_of c.as_slice.result.now in
    let qs = map tree_of c.as_slice-in-Node-other-2.result.now in
    let na : tree_of c.args.one.now ≡ node o (trees_of ps) = ap tree_of c.in-Node.is ∙ ap (λ l. node o (trees_of l)) (sym c.as_slice.ensures) in
    let nb : tree_of c.args.other.now ≡ node p (trees_of qs) = ap tree_of c.in-Node-other-2.is ∙ ap (λ l. node p (trees_of l)) (sym c.as_slice-in-Node-other-2.ensures) in
    let m : MakesOne c.args.spare honest (node o (trees_of ps)) (node p (trees_of qs)) =
    subst (λ u. MakesOne c.args.spare honest u (node p (trees_of qs))) na (subst (MakesOne c.args.spare honest (tree_of c.args.one.now)) nb c.requires.1) in
    let same = (one_below c.args.spare honest o p ps qs m).op in
    match_as c.first_apart.result (ps ≡ qs) (tree_of c.args.one.now ≡ tree_of c.args.other.now) (λ v. TellsAllApart c.args.spare ps qs v) (λ v. TellsApart c.args.spare (tree_of c.args.one.now) (tree_of c.args.other.now) v)
    (λ e. na ∙ ap (λ q. node q (trees_of ps)) same ∙ ap (λ l. node p (trees_of l)) e ∙ sym nb)
    (λ v told. subst (λ u. TellsApart c.args.spare u (tree_of c.args.other.now) v) (sym na) (subst (λ u. TellsApart c.args.spare (node o (trees_of ps)) u v) (sym nb) (nodes_told c.args.spare v o p ps qs told)))
    c.first_apart.ensures
