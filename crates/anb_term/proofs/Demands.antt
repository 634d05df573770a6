-- Demands that hold go on holding, and those that hold of terms hold of values where labels agree.
use Rattle.std.proofs.Common.{◌≡◌, suc, List, [], ◌∷◌, ◌++◌, length, true, IsTrue, Option, Some, None, refl, sym, ap, ◌∙◌}
use Rattle.std.specs.Prelude.{slice_get, option_and_then, ◌==◌}
use Rattle.std.proofs.lemmas.Bool.{eqb-true, eq-eqb, and_parts}
use Rattle.std.proofs.lemmas.List.Elements.{All-from_recursion, recursion_from_All}
use Rattle.std.proofs.lemmas.List.{append-nil}
use Rattle.anb_term.specs.declared.term.Op.{Op}
use Rattle.anb_term.specs.Operator.{arity, keys}
use Rattle.anb_term.specs.Tree.{Tree, node, trees_of}
use Rattle.anb_term.specs.TreeSame.{tree_same}
use Rattle.anb_term.specs.Lawful.{Lawful}
use Rattle.anb_term.specs.Value.{Meaning, RecipeTree, build, part, RecipeTrees, no_recipes, more_recipes, value, values, build_if, part_if}
use Rattle.anb_term.specs.FreeAlgebra.{parts_of, terms_over}
use Rattle.anb_term.specs.FreeLawful.{parts_are}
use Rattle.anb_term.specs.Agree.{Agree}
use Rattle.anb_term.specs.Demand.{Demand, opens, equals, holds, all_hold, alike, undoing, undone_if}
use Rattle.anb_term.specs.Statements.{AgreeHolds}
use Rattle.anb_term.proofs.Steps.{bound, consed, guarded}
use Rattle.anb_term.proofs.Values.{Valued, values_are}
use Rattle.anb_term.proofs.Frames.{value_more, values_more}
use Rattle.anb_term.proofs.Lists.{is_there_some}

pub hold_both : {A : Type 0} (m : Meaning A) (vs : List A) (ds es : List Demand) → all_hold m vs ds ≡ true → all_hold m vs es ≡ true → all_hold m vs (ds ++ es) ≡ true
hold_both m vs [] es h k = k
hold_both m vs (d ∷ ds) es h k = let b = and_parts (holds m vs d) (all_hold m vs ds) h in rw (b.0) (hold_both m vs ds es b.1 k)

pub alike_are : {A : Type 0} (m : Meaning A) (x y : Option A) → alike m x y ≡ true → (v : A) × (w : A) × (x ≡ Some v) × (y ≡ Some w) × (m.same v w ≡ true)
alike_are m None y e = cc
alike_are m (Some v) None e = cc
alike_are m (Some v) (Some w) e = (v, w, refl, refl, e)

module _ {A : Type 0} (m : Meaning A) (vs ws : List A) where
  holds_more : (d : Demand) → holds m vs d ≡ true → holds m (vs ++ ws) d ≡ true
  holds_more (opens o ks r) e =
      let x = is_there_some (undoing m vs o ks r) e in
      let a = bound (λ kv. option_and_then (undone_if m o kv) (value m vs r)) (values m vs ks) x.0 x.1 in
      let b = bound (undone_if m o a.0) (value m vs r) x.0 a.2 in
      rw (values_more m vs ws ks a.0 a.1, value_more m vs ws r b.0 b.1, b.2)
  holds_more (equals r s) e =
      let x = alike_are m (value m vs r) (value m vs s) e in
      rw (value_more m vs ws r x.0 x.2, value_more m vs ws s x.1 x.3) x.4

  pub all_hold_more : (ds : List Demand) → all_hold m vs ds ≡ true → all_hold m (vs ++ ws) ds ≡ true
  all_hold_more [] e = refl
  all_hold_more (d ∷ ds) e = let b = and_parts (holds m vs d) (all_hold m vs ds) e in rw (holds_more d b.0) (all_hold_more ds b.1)

pub undone_is : {A : Type 0} (m : Meaning A) (o : Op) (ks : List A) (v : A) (ps : List A) → undone_if m o ks v ≡ Some ps → (m.has o ≡ true) × (length ks ≡ keys o) × (m.undone o ks v ≡ Some ps)
undone_is m o ks v ps e = let g = guarded (m.has o) (length ks == keys o) (m.undone o ks v) ps e in (g.0, eqb-true _ _ g.1, g.2)

-- labels that agree
module _ {A : Type 0} (m : Meaning A) (lawful : Lawful m) (frame : List Tree) (vs : List A) (agree : Agree m frame vs) (valued : Valued m vs) where
  -- recipes that have terms have values
  pub agreed : (rs : RecipeTrees) (ts : List Tree) → values (terms_over m.has) frame rs ≡ Some ts → (bs : List A) × (values m vs rs ≡ Some bs) × (length bs ≡ length ts)
  agreed no_recipes ts e = let s : [] ≡ ts = cc in ([], refl, ap length s)
  agreed (more_recipes r rs) ts e =
      let c = consed (value (terms_over m.has) frame r) (values (terms_over m.has) frame rs) ts e in
      let b = agree.one r r c.0 c.2 c.2 in
      let bs = agreed rs c.1 c.3 in
      (b.0 ∷ bs.0, rw (b.1, bs.1), ap suc bs.2 ∙ sym (ap length c.4))

  -- what can be undone in terms can be undone in values
  module _ (o : Op) (ks : RecipeTrees) (r : RecipeTree) (kts : List Tree) (t : Tree) (et : values (terms_over m.has) frame ks ≡ Some kts) (er : value (terms_over m.has) frame r ≡ Some t)
      (h : m.has o ≡ true) (n : length kts ≡ keys o) where
    pub undone_too : (ps : List Tree) → parts_of o kts t ≡ Some ps → (kv : List A) × (v : A) × (qs : List A) × (values m vs ks ≡ Some kv) × (value m vs r ≡ Some v) × (length kv ≡ keys o) × (m.undone o kv v ≡ Some qs)
    undone_too [] e =
        let kv = agreed ks kts et in
        let p = parts_are o kts t [] e in
        let nil : kts ++ [] ≡ kts = append-nil kts in
        let long : length kts ≡ arity o = sym (ap length nil) ∙ p.2 in
        let is : t ≡ node o (trees_of kts) = p.1 ∙ ap (λ l. node o (trees_of l)) nil in
        let built : value (terms_over m.has) frame (build o ks) ≡ Some t = rw (et, h, eq-eqb (length kts) (arity o) long) (ap Some (sym is)) in
        let b = agree.one (build o ks) r t built er in
        let g = bound (build_if m o) (values m vs ks) b.0 b.1 in
        let same : kv.0 ≡ g.0 = let f = kv.1 in let f2 = g.1 in cc in
        let c = guarded (m.has o) (length g.0 == arity o) (Some (m.built o g.0)) b.0 g.2 in
        let is_built : m.built o g.0 ≡ b.0 = cc in
        let count : length g.0 ≡ keys o = sym (ap length same) ∙ kv.2 ∙ n in
        let u = lawful.undone_of o g.0 [] p.0 h count (ap length (append-nil g.0) ∙ eqb-true _ _ c.1)
        (All-from_recursion (λ x. IsTrue (m.is_value x)) g.0 (values_are m lawful vs valued ks g.0 g.1)) (All-from_recursion (λ x. IsTrue (m.is_value x)) [] tt) in
        (g.0, b.0, [], g.1, b.2, count, ap (m.undone o g.0) (sym is_built ∙ ap (m.built o) (sym (append-nil g.0))) ∙ u)
    undone_too (p ∷ ps) e =
        let first : value (terms_over m.has) frame (part o 0 ks r) ≡ Some p = rw (et, er, h, eq-eqb (length kts) (keys o) n, e) in
        let b = agree.one (part o 0 ks r) (part o 0 ks r) p first first in
        let x = bound (λ kv. option_and_then (part_if m o 0 kv) (value m vs r)) (values m vs ks) b.0 b.1 in
        let y = bound (part_if m o 0 x.0) (value m vs r) b.0 x.2 in
        let g = guarded (m.has o) (length x.0 == keys o) (option_and_then (λ qs. slice_get qs 0) (m.undone o x.0 y.0)) b.0 y.2 in
        let q = bound (λ qs. slice_get qs 0) (m.undone o x.0 y.0) b.0 g.2 in
        (x.0, y.0, q.0, x.1, y.1, eqb-true _ _ g.1, q.1)

  -- a demand that is true in terms is true of values
  pub agree_holds : (d : Demand) → holds (terms_over m.has) frame d ≡ true → holds m vs d ≡ true
  agree_holds (opens o ks r) e =
      let x = is_there_some (undoing (terms_over m.has) frame o ks r) e in
      let a = bound (λ kv. option_and_then (undone_if (terms_over m.has) o kv) (value (terms_over m.has) frame r)) (values (terms_over m.has) frame ks) x.0 x.1 in
      let b = bound (undone_if (terms_over m.has) o a.0) (value (terms_over m.has) frame r) x.0 a.2 in
      let u = undone_is (terms_over m.has) o a.0 b.0 x.0 b.2 in
      let w = undone_too o ks r a.0 b.0 a.1 b.1 u.0 u.1 x.0 u.2 in
      rw (w.3, w.4, u.0, eq-eqb (length w.0) (keys o) w.5, w.6)
  agree_holds (equals r s) e =
      let x = alike_are (terms_over m.has) (value (terms_over m.has) frame r) (value (terms_over m.has) frame s) e in
      let y = agree.one r s x.0 x.2 (x.3 ∙ ap Some (sym (tree_same _ _ x.4))) in
      rw (y.1, y.2) (lawful.itself y.0)

  pub agree_all_hold : (ds : List Demand) → all_hold (terms_over m.has) frame ds ≡ true → all_hold m vs ds ≡ true
  agree_all_hold [] e = refl
  agree_all_hold (d ∷ ds) e = let b = and_parts (holds (terms_over m.has) frame d) (all_hold (terms_over m.has) frame ds) e in rw (agree_holds d b.0) (agree_all_hold ds b.1)

pub agree_holds_all : {A : Type 0} (m : Meaning A) → Lawful m → AgreeHolds m
agree_holds_all m lawful frame vs ds valued agree e = agree_all_hold m lawful frame vs agree (recursion_from_All (λ x. IsTrue (m.is_value x)) vs valued) ds e
