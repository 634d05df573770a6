-- The checks of entries hold of the labels' terms.
use Rattle.std.proofs.Common.{◌≡◌, ℕ, suc, List, [], ◌∷◌, length, Bool, true, Some, refl, sym, ap, ◌∙◌, subst, inl, inr}
use Rattle.std.specs.Prelude.{slice_get}
use Rattle.std.proofs.lemmas.Bool.{eq-eqb}
use Rattle.anb_term.specs.declared.term.Op.{Op}
use Rattle.anb_term.specs.Operator.{arity, keys}
use Rattle.anb_term.specs.Tree.{Tree, node, Trees, trees_of, list_of, IsFormed, AreFormed}
use Rattle.anb_term.specs.TreeSame.{trees_of-list_of, tree_itself}
use Rattle.anb_term.specs.Value.{RecipeTree, RecipeTrees, build, part, value, values}
use Rattle.anb_term.specs.FreeAlgebra.{parts_of, terms_over}
use Rattle.anb_term.specs.Demand.{holds, all_hold, opens, equals}
use Rattle.anb_term.specs.View.{tree_of}
use Rattle.anb_term.proofs.Lists.{slice_get-map}
use Rattle.anb_term.proofs.Values.{part_parts}
use Rattle.anb_close.specs.Rows.{mades_for, made_recipe, mades_recipes}
use Rattle.anb_close.proofs.Rows.{row_term}
use Rattle.anb_close.specs.declared.entry.Entry.{Entry}
use Rattle.anb_close.specs.declared.entry.Origin.TheVariants.{Part}
use Rattle.anb_close.specs.Entries.{rows, terms_of, labels_of, IsKnown}
use Rattle.anb_close.specs.Recipes.{recipe_for, recipes}
use Rattle.anb_close.specs.MadeView.{made_tree}
use Rattle.anb_close.proofs.Growing.{formed_at}
use Rattle.anb_close.proofs.Sound.{sound, made_gives, mades_give, formed_all}
use Rattle.anb_close.proofs.Origins.{recipe_at}
use Rattle.anb_basis.specs.declared.check.Check.{Check}
use Rattle.anb_basis.specs.declared.check.Check.TheVariants.{Open, Equal}
use Rattle.anb_basis.specs.Checks.{entry_recipe, demand_of, demands_of, IsComparedWith, Fits}

module _ (has : Op → Bool) (es : List Entry) (known : IsKnown es) (labels_formed : AreFormed has (trees_of (labels_of es))) where
  formed : AreFormed has (trees_of (terms_of es))
  formed = formed_all has [] es tt known.follow labels_formed

  gives : (k : ℕ) (t : Tree) → slice_get (terms_of es) k ≡ Some t → value (terms_over has) (labels_of es) (entry_recipe es k) ≡ Some t
  gives k t at = (sound has es known.follow formed).gives k t at

  alike : (r s : RecipeTree) (t : Tree) → value (terms_over has) (labels_of es) r ≡ Some t → value (terms_over has) (labels_of es) s ≡ Some t → holds (terms_over has) (labels_of es) (equals r s) ≡ true
  alike r s t a b = rw (a, b) (tree_itself t)

  rebuilt : (o : Op) (us ms : Trees) → IsFormed has (node o us) → mades_for (rows es) us ≡ Some ms → value (terms_over has) (labels_of es) (build o (mades_recipes (recipes es) ms)) ≡ Some (node o us)
  rebuilt o us ms f e =
      let v = mades_give has (labels_of es) es (recipes es) (sound has es known.follow formed) us ms f.2 e in
      rw (v, f.0, eq-eqb (length (list_of us)) (arity o) f.1, trees_of-list_of us)

  compared : (i : ℕ) (c : Tree) → IsComparedWith es i c → holds (terms_over has) (labels_of es) (equals (entry_recipe es i) (made_recipe (recipes es) c)) ≡ true
  compared i c (inl (t, row, at, made)) =
      alike (entry_recipe es i) (made_recipe (recipes es) c) t (gives i t at) (made_gives has (labels_of es) es (recipes es) (sound has es known.follow formed) t c (formed_at has (terms_of es) i t formed at) made)
  compared i c (inr (o, us, ms, row, u, made, is)) =
      let at = row_term (terms_of es) i (node o us) row in
      subst (λ x. holds (terms_over has) (labels_of es) (equals (entry_recipe es i) (made_recipe (recipes es) x)) ≡ true) is
      (alike (entry_recipe es i) (build o (mades_recipes (recipes es) ms)) (node o us) (gives i (node o us) at) (rebuilt o us ms (formed_at has (terms_of es) i (node o us) formed at) made))

  undone : (o : Op) (rs : RecipeTrees) (r : RecipeTree) (kv : List Tree) (v : Tree) (ps : List Tree) → has o ≡ true → length kv ≡ keys o → values (terms_over has) (labels_of es) rs ≡ Some kv
      → value (terms_over has) (labels_of es) r ≡ Some v → parts_of o kv v ≡ Some ps → holds (terms_over has) (labels_of es) (opens o rs r) ≡ true
  undone o rs r kv v ps h n a b c = rw (a, b, h, eq-eqb (length kv) (keys o) n, c) refl

  opened : (f : ℕ) (e : Entry) (o : Op) (ks : List Tree) (i : ℕ) → slice_get es f ≡ Some e → e.origin ≡ Part o 0 ks i
      → holds (terms_over has) (labels_of es) (opens o (mades_recipes (recipes es) (trees_of ks)) (entry_recipe es i)) ≡ true
  opened f e o ks i at is =
      let rs = mades_recipes (recipes es) (trees_of ks) in
      let r : entry_recipe es f ≡ part o 0 rs (entry_recipe es i) = recipe_at es known f e at ∙ ap (recipe_for (recipes es)) is in
      let g = gives f (tree_of e.term) (slice_get-map (λ (y : Entry). tree_of y.term) es f e at) in
      let p = part_parts (terms_over has) (labels_of es) o 0 rs (entry_recipe es i) (tree_of e.term) (ap (value (terms_over has) (labels_of es)) (sym r) ∙ g) in
      undone o rs (entry_recipe es i) p.0 p.1 p.2 p.3 p.4 p.5 p.6 p.7

  pub true_in_terms : (c : Check) → Fits es c → holds (terms_over has) (labels_of es) (demand_of es c) ≡ true
  true_in_terms (Open x) (e, at, is) = opened x.first e x.op x.keys x.of at is
  true_in_terms (Equal i w) h = compared i (made_tree w) h

  pub all_true_in_terms : (cs : List Check) → ((k : ℕ) (c : Check) → slice_get cs k ≡ Some c → Fits es c) → all_hold (terms_over has) (labels_of es) (demands_of es cs) ≡ true
  all_true_in_terms [] fits = refl
  all_true_in_terms (c ∷ cs) fits = rw (true_in_terms c (fits 0 c refl)) (all_true_in_terms cs (λ k. fits (suc k)))
