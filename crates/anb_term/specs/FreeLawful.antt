-- The free algebra obeys the laws.
use Rattle.std.specs.Prelude.{◌≡◌, List, [], ◌∷◌, ◌++◌, length, map, take, drop, Bool, true, false, ◌&&◌, ◌==◌, IsTrue, cond, refl, Option, Some, None, option_map}
use Rattle.std.proofs.Common.{sym, ap, ◌∙◌, take-append-drop}
use Rattle.std.proofs.lemmas.List.{length-map}
use Rattle.std.proofs.Math.Seq.{take-append_seam, drop-append_seam}
use Rattle.std.proofs.lemmas.Bool.{eqb-true, eq-eqb, and_parts}
use Rattle.anb_term.specs.declared.term.Op.{Op}
use Rattle.anb_term.specs.declared.term.Term.{Term}
use Rattle.anb_term.specs.declared.term.Term.TheVariants.{Node}
use Rattle.anb_term.specs.Operator.{arity, keys, undoable, op_eqb}
use Rattle.anb_term.specs.Tree.{Tree, leaf, node, trees_of, list_of, trees_eqb}
use Rattle.anb_term.specs.View.{tree_of, term_of}
use Rattle.anb_term.specs.TreeSame.{list_of-trees_of, trees_of-list_of, term_of-tree_of, terms_trees, trees_terms, op_same, op_itself, trees_same, trees_itself, tree_same, tree_itself}
use Rattle.anb_term.specs.Lawful.{Lawful}
use Rattle.anb_term.specs.FreeAlgebra.{parts_of, terms_over, term_meaning}

pub map-append : {A B : Type 0} (f : A → B) (xs ys : List A) → map f (xs ++ ys) ≡ map f xs ++ map f ys
map-append f [] ys = refl
map-append f (x ∷ xs) ys = ap (λ l. f x ∷ l) (map-append f xs ys)

chosen : {A : Type 0} (b : Bool) (x t : A) → cond b (Some x) None ≡ Some t → (b ≡ true) × (x ≡ t)
chosen true x t e = (refl, cc)
chosen false x t e = cc

mapped : {A B : Type 0} (f : A → B) (o : Option A) (y : B) → option_map f o ≡ Some y → (x : A) × (o ≡ Some x) × (f x ≡ y)
mapped f None y e = cc
mapped f (Some x) y e = (x, refl, cc)

-- what has parts is built of the keys and the parts
pub parts_are : (o : Op) (ks : List Tree) (t : Tree) (ps : List Tree) → parts_of o ks t ≡ Some ps → (IsTrue (undoable o)) × (t ≡ node o (trees_of (ks ++ ps))) × (length (ks ++ ps) ≡ arity o)
parts_are o ks (leaf n) ps e = cc
parts_are o ks (node p ts) ps e =
    let c = chosen (undoable o && op_eqb o p && (length (list_of ts) == arity o) && trees_eqb (trees_of ks) (trees_of (take (keys o) (list_of ts)))) (drop (keys o) (list_of ts)) ps e in
    let d = and_parts (undoable o && op_eqb o p && (length (list_of ts) == arity o)) _ c.0 in
    let l = and_parts (undoable o && op_eqb o p) _ d.0 in
    let f = and_parts (undoable o) (op_eqb o p) l.0 in
    let same : o ≡ p = op_same o p f.1 in
    let is_keys : ks ≡ take (keys o) (list_of ts) = sym (list_of-trees_of ks) ∙ ap list_of (trees_same _ _ d.1) ∙ list_of-trees_of _ in
    let all : ks ++ ps ≡ list_of ts = rw (is_keys, ← c.1) (take-append-drop (keys o) (list_of ts)) in
    (f.0, rw (all, trees_of-list_of, same), rw all (eqb-true _ _ l.1))

-- and what is built of keys and parts has those parts
pub parts_of_built : (o : Op) (ks ps : List Tree) → IsTrue (undoable o) → length ks ≡ keys o → length (ks ++ ps) ≡ arity o → parts_of o ks (node o (trees_of (ks ++ ps))) ≡ Some ps
parts_of_built o ks ps u count long =
    let is : list_of (trees_of (ks ++ ps)) ≡ ks ++ ps = list_of-trees_of (ks ++ ps) in
    let front : take (keys o) (ks ++ ps) ≡ ks = rw (← count) (take-append_seam ks ps) in
    let back : drop (keys o) (ks ++ ps) ≡ ps = rw (← count) (drop-append_seam ks ps) in
    let whole : (length (ks ++ ps) == arity o) ≡ true = eq-eqb (length (ks ++ ps)) (arity o) long in
    rw (is, front, back, u, op_itself o, whole, trees_itself (trees_of ks)) refl

not_undoable : (o : Op) (ks : List Tree) (t : Tree) → undoable o ≡ false → parts_of o ks t ≡ None
not_undoable o ks (leaf n) u = refl
not_undoable o ks (node p ts) u = rw u refl

pub free_lawful : (has : Op → Bool) → Lawful (terms_over has)
free_lawful has = record {
  builds = λ o xs h n v. refl;
  undoes = λ o ks ps v u h n vk vv e. let b = parts_are o ks v ps e in (sym b.1, b.2, λ k d l. refl);
  undone_of = λ o ks ps u h n c vk vp. parts_of_built o ks ps u n c;
  never = not_undoable;
  counts = λ o ks ps v u h n e. (parts_are o ks v ps e).2;
  tells = tree_same;
  itself = tree_itself;
}

-- the same of terms
module _ (o : Op) (ks ps : List Term) (v : Term) where
  built_back : term_meaning.undone o ks v ≡ Some ps → (Node o (map tree_of (ks ++ ps)) ≡ v) × (length (ks ++ ps) ≡ arity o)
  built_back e =
      let x = mapped (map term_of) (parts_of o (map tree_of ks) (tree_of v)) ps e in
      let is = parts_are o (map tree_of ks) (tree_of v) x.0 x.1 in
      let back : map tree_of ps ≡ x.0 = ap (map tree_of) (sym x.2) ∙ terms_trees x.0 in
      let all : map tree_of (ks ++ ps) ≡ map tree_of ks ++ x.0 = map-append tree_of ks ps ∙ ap (λ l. map tree_of ks ++ l) back in
      let whole : v ≡ Node o (map tree_of ks ++ x.0) = sym (term_of-tree_of v) ∙ ap term_of is.1 ∙ ap (Node o) (list_of-trees_of (map tree_of ks ++ x.0)) in
      (ap (Node o) all ∙ sym whole, sym (length-map (ks ++ ps) tree_of) ∙ ap length all ∙ is.2)

has_its_parts : (o : Op) (ks ps : List Term) → IsTrue (undoable o) → length ks ≡ keys o → length (ks ++ ps) ≡ arity o → term_meaning.undone o ks (Node o (map tree_of (ks ++ ps))) ≡ Some ps
has_its_parts o ks ps u count long =
    let split : map tree_of (ks ++ ps) ≡ map tree_of ks ++ map tree_of ps = map-append tree_of ks ps in
    let n : length (map tree_of ks) ≡ keys o = length-map ks tree_of ∙ count in
    let l : length (map tree_of ks ++ map tree_of ps) ≡ arity o = sym (ap length split) ∙ length-map (ks ++ ps) tree_of ∙ long in
    rw split (ap (option_map (map term_of)) (parts_of_built o (map tree_of ks) (map tree_of ps) u n l) ∙ ap Some (trees_terms ps))

pub term_lawful : Lawful term_meaning
term_lawful = record {
  builds = λ o xs h n v. refl;
  undoes = λ o ks ps v u h n vk vv e. let b = built_back o ks ps v e in (b.0, b.1, λ k d l. refl);
  undone_of = λ o ks ps u h n c vk vp. has_its_parts o ks ps u n c;
  never = λ o ks v u. ap (option_map (map term_of)) (not_undoable o (map tree_of ks) (tree_of v) u);
  counts = λ o ks ps v u h n e. (built_back o ks ps v e).1;
  tells = λ x y e. sym (term_of-tree_of x) ∙ ap term_of (tree_same _ _ e) ∙ term_of-tree_of y;
  itself = λ x. tree_itself (tree_of x);
}
