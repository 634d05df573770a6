-- What the value of a recipe is: by operators of the algebra alone, and a value where the labels have values.
use Rattle.std.proofs.Common.{◌≡◌, ℕ, List, [], ◌++◌, length, take, drop, Bool, true, false, IsTrue, Some, refl, sym, ap, ◌∙◌, subst}
use Rattle.std.specs.Prelude.{slice_get, option_and_then, ◌==◌}
use Rattle.std.specs.List.{AllByRecursion}
use Rattle.std.proofs.lemmas.Bool.{eqb-true}
use Rattle.std.proofs.lemmas.List.Elements.{All-from_recursion, recursion_from_All}
use Rattle.std.proofs.Math.Seq.{take-append_seam, drop-append_seam}
use Rattle.anb_lemmas.proofs.Each.{each_got}
use Rattle.anb_term.specs.declared.term.Op.{Op}
use Rattle.anb_term.specs.Operator.{arity, keys, undoable}
use Rattle.anb_term.specs.Lawful.{Lawful}
use Rattle.anb_term.specs.Value.{Meaning, RecipeTree, label, build, part, RecipeTrees, no_recipes, more_recipes, value, values, build_if, part_if}
use Rattle.anb_term.specs.FreeAlgebra.{terms_over}
use Rattle.anb_term.specs.FreeLawful.{parts_are}
use Rattle.anb_term.specs.Statements.{PartInTerms, OneValue, BuildsByOwn, UndoesByOwn, GiveValues, GivesOne}
use Rattle.anb_term.proofs.Steps.{guarded, bound, consed}

-- the same as `AreValues`, by recursion
abbrev pub Valued : {A : Type 0} → Meaning A → List A → Type 0
Valued m vs = AllByRecursion (λ x. IsTrue (m.is_value x)) vs

pub one_value : {A : Type 0} (m : Meaning A) → OneValue m
one_value m vs r b c e f = let s : Some b ≡ Some c = sym e ∙ f in cc

module _ {A : Type 0} (m : Meaning A) where
  pub builds_by_own : BuildsByOwn m
  builds_by_own vs o rs b e =
      let x = bound (build_if m o) (values m vs rs) b e in
      let g = guarded (m.has o) (length x.0 == arity o) (Some (m.built o x.0)) b x.2 in
      let same : b ≡ m.built o x.0 = cc in
      (x.0, g.0, eqb-true _ _ g.1, x.1, same)

  -- what a part is, whether or not the algebra is lawful
  pub part_parts : (vs : List A) (o : Op) (j : ℕ) (ks : RecipeTrees) (r : RecipeTree) (b : A) → value m vs (part o j ks r) ≡ Some b
      → (kv : List A) × (v : A) × (ps : List A) × IsTrue (m.has o) × (length kv ≡ keys o) × (values m vs ks ≡ Some kv) × (value m vs r ≡ Some v) × (m.undone o kv v ≡ Some ps) × (slice_get ps j ≡ Some b)
  part_parts vs o j ks r b e =
      let x = bound (λ kv. option_and_then (part_if m o j kv) (value m vs r)) (values m vs ks) b e in
      let y = bound (part_if m o j x.0) (value m vs r) b x.2 in
      let g = guarded (m.has o) (length x.0 == keys o) (option_and_then (λ ps. slice_get ps j) (m.undone o x.0 y.0)) b y.2 in
      let ps = bound (λ ps. slice_get ps j) (m.undone o x.0 y.0) b g.2 in
      (x.0, y.0, ps.0, g.0, eqb-true _ _ g.1, x.1, y.1, ps.1, ps.2)

-- what was undone could be
pub could : {A : Type 0} (m : Meaning A) → Lawful m → (o : Op) (ks ps : List A) (v : A) → m.undone o ks v ≡ Some ps → IsTrue (undoable o)
could m lawful o ks ps v e = by_cases (undoable o) refl where
  by_cases : (b : Bool) → undoable o ≡ b → IsTrue (undoable o)
  by_cases true u = u
  by_cases false u = let none = lawful.never o ks v u in cc

pub undoes_by_own : {A : Type 0} (m : Meaning A) → Lawful m → UndoesByOwn m
undoes_by_own m lawful vs o j ks r b e =
    let p = part_parts m vs o j ks r b e in
    (p.0, p.1, p.2, p.3, could m lawful o p.0 p.2 p.1 p.7, p.4, p.5, p.6, p.7, p.8)

module _ {A : Type 0} (m : Meaning A) (lawful : Lawful m) where
  -- what undoing a value gives
  pub undone_parts : (o : Op) (ks ps : List A) (v : A) → m.has o ≡ true → length ks ≡ keys o → Valued m ks → IsTrue (m.is_value v) → m.undone o ks v ≡ Some ps
      → IsTrue (undoable o) × (m.built o (ks ++ ps) ≡ v) × (length (ks ++ ps) ≡ arity o) × Valued m ps
  undone_parts o ks ps v h n vk vv e =
      let c = could m lawful o ks ps v e in
      let u = lawful.undoes o ks ps v c h n (All-from_recursion (λ x. IsTrue (m.is_value x)) ks vk) vv e in
      (c, u.0, u.1, recursion_from_All (λ x. IsTrue (m.is_value x)) ps u.2)

  -- how many parts there are
  pub counted : (o : Op) (ks ps : List A) (v : A) → m.has o ≡ true → length ks ≡ keys o → m.undone o ks v ≡ Some ps → length (ks ++ ps) ≡ arity o
  counted o ks ps v h n e = lawful.counts o ks ps v (could m lawful o ks ps v e) h n e

  module _ (vs : List A) (valued : Valued m vs) where
    mutual
      pub value_is : (r : RecipeTree) (b : A) → value m vs r ≡ Some b → IsTrue (m.is_value b)
      value_is (label n) b e = each_got (λ x. IsTrue (m.is_value x)) vs n b valued e
      value_is (build o rs) b e =
          let x = bound (build_if m o) (values m vs rs) b e in
          let g = guarded (m.has o) (length x.0 == arity o) (Some (m.built o x.0)) b x.2 in
          let same : m.built o x.0 ≡ b = cc in
          subst (λ y. IsTrue (m.is_value y)) same (lawful.builds o x.0 g.0 (eqb-true _ _ g.1) (All-from_recursion (λ y. IsTrue (m.is_value y)) x.0 (values_are rs x.0 x.1)))
      value_is (part o j ks r) b e =
          let x = bound (λ kv. option_and_then (part_if m o j kv) (value m vs r)) (values m vs ks) b e in
          let y = bound (part_if m o j x.0) (value m vs r) b x.2 in
          let g = guarded (m.has o) (length x.0 == keys o) (option_and_then (λ ps. slice_get ps j) (m.undone o x.0 y.0)) b y.2 in
          let ps = bound (λ ps. slice_get ps j) (m.undone o x.0 y.0) b g.2 in
          let u = undone_parts o x.0 ps.0 y.0 g.0 (eqb-true _ _ g.1) (values_are ks x.0 x.1) (value_is r y.0 y.1) ps.1 in
          each_got (λ z. IsTrue (m.is_value z)) ps.0 j b u.3 ps.2

      pub values_are : (rs : RecipeTrees) (bs : List A) → values m vs rs ≡ Some bs → Valued m bs
      values_are no_recipes bs e = let s : [] ≡ bs = cc in subst (Valued m) s tt
      values_are (more_recipes r rs) bs e =
          let c = consed (value m vs r) (values m vs rs) bs e in
          subst (Valued m) (sym c.4) (value_is r c.0 c.2, values_are rs c.1 c.3)

  pub give_values : GiveValues m
  give_values vs r b valued e = value_is vs (recursion_from_All (λ x. IsTrue (m.is_value x)) vs valued) r b e

-- a part in terms
pub part_in_terms : PartInTerms
part_in_terms has frame o j ks r t e =
    let p = part_parts (terms_over has) frame o j ks r t e in
    let is = parts_are o p.0 p.1 p.2 p.7 in
    let front : take (keys o) (p.0 ++ p.2) ≡ p.0 = rw (← p.4) (take-append_seam p.0 p.2) in
    let back : drop (keys o) (p.0 ++ p.2) ≡ p.2 = rw (← p.4) (drop-append_seam p.0 p.2) in
    (p.0 ++ p.2, p.3, is.0, is.2, p.6 ∙ ap Some is.1, p.5 ∙ ap Some (sym front), ap (λ l. slice_get l j) back ∙ p.8)

pub gives_one : {A : Type 0} (m : Meaning A) → GivesOne m
gives_one m frame vs t agree has =
    let b = agree.one has.0 has.0 t has.1 has.1 in
    (b.0, (has, λ r e. let h = agree.one r has.0 t e has.1 in h.1 ∙ sym h.2 ∙ b.1), λ c g. let s : Some c ≡ Some b.0 = sym (g.1 has.0 has.1) ∙ b.1 in cc)
