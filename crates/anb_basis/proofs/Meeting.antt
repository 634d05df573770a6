-- What it means for an algebra's values that a check holds.
use Rattle.std.proofs.Common.{◌≡◌, ℕ, zero, suc, List, [], ◌∷◌, true, Option, Some, None, refl, sym, ap, ◌∙◌, subst}
use Rattle.std.specs.Prelude.{slice_get, option_and_then}
use Rattle.std.proofs.lemmas.Bool.{and_parts}
use Rattle.anb_term.specs.declared.term.Op.{Op}
use Rattle.anb_term.specs.Tree.{trees_of}
use Rattle.anb_term.specs.Value.{Meaning, RecipeTree, RecipeTrees, value, values}
use Rattle.anb_term.specs.Lawful.{Lawful}
use Rattle.anb_term.specs.Demand.{holds, all_hold, undone_if, undoing, is_there}
use Rattle.anb_term.proofs.Steps.{bound}
use Rattle.anb_term.proofs.Demands.{alike_are, undone_is}
use Rattle.anb_close.specs.declared.entry.Entry.{Entry}
use Rattle.anb_close.specs.MadeView.{made_tree}
use Rattle.anb_close.specs.Rows.{made_recipe, mades_recipes}
use Rattle.anb_close.specs.Recipes.{recipes}
use Rattle.anb_basis.specs.declared.check.Check.{Check}
use Rattle.anb_basis.specs.declared.check.Check.TheVariants.{Open, Equal}
use Rattle.anb_basis.specs.Checks.{entry_recipe, demand_of, demands_of}

module _ {A : Type 0} (m : Meaning A) (vs : List A) where
  -- and_parts recipes have one value
  abbrev pub IsSame : RecipeTree → RecipeTree → Type 0
  IsSame r s = (v : A) × (value m vs r ≡ Some v) × (value m vs s ≡ Some v)

  -- undoing what a recipe gives, with keys that recipes give
  pub record IsUndone (o : Op) (rs : RecipeTrees) (r : RecipeTree) : Type 0 where
    pub keys_are : List A
    pub of : A
    pub parts : List A
    pub have_keys : values m vs rs ≡ Some keys_are
    pub has_of : value m vs r ≡ Some of
    pub undoes : m.undone o keys_are of ≡ Some parts

  abbrev pub Meets : List Entry → Check → Type 0
  Meets es (Open x) = IsUndone x.op (mades_recipes (recipes es) (trees_of x.keys)) (entry_recipe es x.of)
  Meets es (Equal i w) = IsSame (entry_recipe es i) (made_recipe (recipes es) (made_tree w))

  abbrev pub AllMeet : List Entry → List Check → Type 0
  AllMeet es cs = (k : ℕ) (c : Check) → slice_get cs k ≡ Some c → Meets es c

  module _ (lawful : Lawful m) where
    there : {B : Type 0} (o : Option B) → is_there o ≡ true → (x : B) × (o ≡ Some x)
    there None e = cc
    there (Some x) e = (x, refl)

    pub meets : (es : List Entry) (c : Check) → holds m vs (demand_of es c) ≡ true → Meets es c
    meets es (Open x) e =
        let ks = mades_recipes (recipes es) (trees_of x.keys) in
        let r = entry_recipe es x.of in
        let u = there (undoing m vs x.op ks r) e in
        let a = bound (λ kv. option_and_then (undone_if m x.op kv) (value m vs r)) (values m vs ks) u.0 u.1 in
        let b = bound (undone_if m x.op a.0) (value m vs r) u.0 a.2 in
        record { keys_are = a.0; of = b.0; parts = u.0; have_keys = a.1; has_of = b.1; undoes = (undone_is m x.op a.0 b.0 u.0 b.2).2 }
    meets es (Equal i w) e =
        let x = alike_are m (value m vs (entry_recipe es i)) (value m vs (made_recipe (recipes es) (made_tree w))) e in
        (x.0, x.2, x.3 ∙ ap Some (sym (lawful.tells x.0 x.1 x.4)))

    pub all_meet : (es : List Entry) (cs : List Check) → all_hold m vs (demands_of es cs) ≡ true → AllMeet es cs
    all_meet es [] e k c at = cc
    all_meet es (d ∷ cs) e zero c at =
        let b = and_parts (holds m vs (demand_of es d)) (all_hold m vs (demands_of es cs)) e in
        let s : d ≡ c = cc in
        subst (Meets es) s (meets es d b.0)
    all_meet es (d ∷ cs) e (suc k) c at =
        let b = and_parts (holds m vs (demand_of es d)) (all_hold m vs (demands_of es cs)) e in
        all_meet es cs b.1 k c at
