-- Trees and terms told apart, and led into one another.
use Rattle.std.specs.Prelude.{◌≡◌, List, [], ◌∷◌, map, true, ◌==◌, refl}
use Rattle.std.proofs.Common.{ap}
use Rattle.std.proofs.lemmas.Bool.{eqb-true, eq-eqb, and_parts, and_from}
use Rattle.anb_term.specs.declared.term.Op.{Op}
use Rattle.anb_term.specs.declared.term.Op.TheVariants.{Hash, Mac, Seal, Wrap, Format}
use Rattle.anb_term.specs.declared.term.Term.{Term}
use Rattle.anb_term.specs.declared.term.Term.TheVariants.{Atom, Node}
use Rattle.anb_term.specs.Operator.{op_eqb}
use Rattle.anb_term.specs.Tree.{Tree, leaf, node, Trees, none, more, trees_of, list_of, tree_eqb, trees_eqb}
use Rattle.anb_term.specs.View.{tree_of, term_of}

pub list_of-trees_of : (ts : List Tree) → list_of (trees_of ts) ≡ ts
list_of-trees_of [] = refl
list_of-trees_of (t ∷ ts) = ap (λ us. t ∷ us) (list_of-trees_of ts)

pub trees_of-list_of : (ts : Trees) → trees_of (list_of ts) ≡ ts
trees_of-list_of none = refl
trees_of-list_of (more t ts) = ap (more t) (trees_of-list_of ts)

pub term_of-tree_of : (t : Term) → term_of (tree_of t) ≡ t
term_of-tree_of (Atom n) = refl
term_of-tree_of (Node o ts) = ap (Node o) (list_of-trees_of ts)

pub tree_of-term_of : (t : Tree) → tree_of (term_of t) ≡ t
tree_of-term_of (leaf n) = refl
tree_of-term_of (node o ts) = ap (node o) (trees_of-list_of ts)

pub terms_trees : (ts : List Tree) → map tree_of (map term_of ts) ≡ ts
terms_trees [] = refl
terms_trees (t ∷ ts) = cc (tree_of-term_of t, terms_trees ts)

pub trees_terms : (ts : List Term) → map term_of (map tree_of ts) ≡ ts
trees_terms [] = refl
trees_terms (t ∷ ts) = cc (term_of-tree_of t, trees_terms ts)

pub op_same : (o p : Op) → op_eqb o p ≡ true → o ≡ p
op_same Hash Hash e = refl
op_same Mac Mac e = refl
op_same Seal Seal e = refl
op_same Wrap Wrap e = refl
op_same (Format i a) (Format j b) e = let h = and_parts (i == j) (a == b) e in cc (eqb-true i j h.0, eqb-true a b h.1)
op_same _ _ e = cc

pub op_itself : (o : Op) → op_eqb o o ≡ true
op_itself Hash = refl
op_itself Mac = refl
op_itself Seal = refl
op_itself Wrap = refl
op_itself (Format i a) = and_from _ _ (eq-eqb i i refl) (eq-eqb a a refl)

mutual
  pub tree_same : (x y : Tree) → tree_eqb x y ≡ true → x ≡ y
  tree_same (leaf m) (leaf n) e = ap leaf (eqb-true m n e)
  tree_same (leaf m) (node p us) e = cc
  tree_same (node o ts) (leaf n) e = cc
  tree_same (node o ts) (node p us) e = let h = and_parts (op_eqb o p) (trees_eqb ts us) e in cc (op_same o p h.0, trees_same ts us h.1)

  pub trees_same : (xs ys : Trees) → trees_eqb xs ys ≡ true → xs ≡ ys
  trees_same none none e = refl
  trees_same none (more u us) e = cc
  trees_same (more t ts) none e = cc
  trees_same (more t ts) (more u us) e = let h = and_parts (tree_eqb t u) (trees_eqb ts us) e in cc (tree_same t u h.0, trees_same ts us h.1)

mutual
  pub tree_itself : (x : Tree) → tree_eqb x x ≡ true
  tree_itself (leaf m) = eq-eqb m m refl
  tree_itself (node o ts) = and_from _ _ (op_itself o) (trees_itself ts)

  pub trees_itself : (xs : Trees) → trees_eqb xs xs ≡ true
  trees_itself none = refl
  trees_itself (more t ts) = and_from _ _ (tree_itself t) (trees_itself ts)
