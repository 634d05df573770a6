-- What is reached is shut for a term that has no recipe.
use Rattle.std.proofs.Common.{◌≡◌, ℕ, zero, suc, List, [], ◌∷◌, length, take, drop, Bool, true, IsTrue, Some, refl, sym, subst, inl, inr, arith, length-take-le}
use Rattle.std.specs.Prelude.{slice_get}
use Rattle.std.specs.List.{AllByRecursion}
use Rattle.std.proofs.lemmas.Bool.{eq-eqb}
use Rattle.anb_lemmas.proofs.Each.{each_from_got}
use Rattle.anb_term.specs.declared.term.Op.{Op}
use Rattle.anb_term.specs.Operator.{arity, keys, undoable}
use Rattle.anb_term.specs.Tree.{Tree, leaf, node, Trees, none, more, trees_of, list_of, IsFormed, AreFormed}
use Rattle.anb_term.specs.TreeSame.{trees_of-list_of, op_itself, trees_itself}
use Rattle.anb_term.specs.Value.{RecipeTree, label, build, part, RecipeTrees, no_recipes, more_recipes, value, values}
use Rattle.anb_term.specs.FreeAlgebra.{terms_over}
use Rattle.anb_term.specs.Composes.{Among, Composes, ComposeAll}
use Rattle.anb_term.specs.Agree.{HasRecipe}
use Rattle.anb_term.proofs.Lists.{all_take, cons_of_both, keys_fit, each_formed}
use Rattle.anb_algebra.specs.ByteMeaning.{has_operator}
use Rattle.anb_protocol.specs.Protocols.{ProtocolValue}
use Rattle.anb_reason.specs.Shut.{IsShut, Occurs, OccursIn}
use Rattle.anb_reason.specs.Reach.{OccursInOne, IsReach}

at_drop : {A : Type 0} (n j : ℕ) (xs : List A) (x : A) → slice_get (drop n xs) j ≡ Some x → (k : ℕ) × (slice_get xs k ≡ Some x)
at_drop zero j xs x e = (j, e)
at_drop (suc n) j [] x e = cc
at_drop (suc n) j (y ∷ xs) x e = let r = at_drop n j xs x e in (suc r.0, r.1)

-- what composes from terms with recipes has one
module _ (has : Op → Bool) (frame S : List Tree) (given : (u : Tree) → Among S u → HasRecipe has frame u) where
  mutual
    recipe : (t : Tree) → IsFormed has t → Composes S t → HasRecipe has frame t
    recipe (leaf n) f h = given (leaf n) h
    recipe (node o ts) f (inl here) = given (node o ts) here
    recipe (node o ts) f (inr all) =
        let rs = recipes ts f.2 all.1 in
        (build o rs.0, rw (rs.1, f.0, eq-eqb (length (list_of ts)) (arity o) all.0, trees_of-list_of ts) refl)

    recipes : (ts : Trees) → AreFormed has ts → ComposeAll S ts → (rs : RecipeTrees) × (values (terms_over has) frame rs ≡ Some (list_of ts))
    recipes none f h = (no_recipes, refl)
    recipes (more t ts) f h =
        let r = recipe t f.0 h.0 in
        let rs = recipes ts f.1 h.1 in
        (more_recipes r.0 rs.0, cons_of_both (value (terms_over has) frame r.0) (values (terms_over has) frame rs.0) t (list_of ts) r.1 rs.1)

  list_recipes : (ts : List Tree) → AllByRecursion (IsFormed has) ts → AllByRecursion (Composes S) ts → (rs : RecipeTrees) × (values (terms_over has) frame rs ≡ Some ts)
  list_recipes [] f h = (no_recipes, refl)
  list_recipes (t ∷ ts) f h =
      let r = recipe t f.0 h.0 in
      let rs = list_recipes ts f.1 h.1 in
      (more_recipes r.0 rs.0, cons_of_both (value (terms_over has) frame r.0) (values (terms_over has) frame rs.0) t ts r.1 rs.1)

pub occurs_itself : (t : Tree) → Occurs t t
occurs_itself (leaf n) = refl
occurs_itself (node o ts) = inl refl

occurs_at : (ts : Trees) (k : ℕ) (u : Tree) → slice_get (list_of ts) k ≡ Some u → OccursIn u ts
occurs_at none k u e = cc
occurs_at (more t ts) zero u e = let s : t ≡ u = cc in let P : Tree → Type 0 = λ v. Occurs v t in inl (subst P s (occurs_itself t))
occurs_at (more t ts) (suc k) u e = inr (occurs_at ts k u e)

node_parts : (o p : Op) (ts us : Trees) → node o ts ≡ node p us → ts ≡ us
node_parts o p ts us e = cc

mutual
  -- an operand of what occurs occurs
  deeper : (t : Tree) (o : Op) (us : Trees) (u : Tree) → OccursIn u us → Occurs (node o us) t → Occurs u t
  deeper (leaf n) o us u h e = cc
  deeper (node p ts) o us u h (inl e) = inr (subst (OccursIn u) (node_parts o p us ts e) h)
  deeper (node p ts) o us u h (inr e) = inr (deeper_in ts o us u h e)

  deeper_in : (ts : Trees) (o : Op) (us : Trees) (u : Tree) → OccursIn u us → OccursIn (node o us) ts → OccursIn u ts
  deeper_in none o us u h e = absurd e
  deeper_in (more t ts) o us u h (inl e) = inl (deeper t o us u h e)
  deeper_in (more t ts) o us u h (inr e) = inr (deeper_in ts o us u h e)

deeper_one : (frame : List Tree) (o : Op) (us : Trees) (u : Tree) → OccursIn u us → OccursInOne frame (node o us) → OccursInOne frame u
deeper_one [] o us u h e = absurd e
deeper_one (t ∷ frame) o us u h (inl e) = inl (deeper t o us u h e)
deeper_one (t ∷ frame) o us u h (inr e) = inr (deeper_one frame o us u h e)

mutual
  formed_in : (has : Op → Bool) (t u : Tree) → IsFormed has t → Occurs u t → IsFormed has u
  formed_in has (leaf n) u h e = subst (IsFormed has) (sym e) tt
  formed_in has (node o ts) u h (inl e) = subst (IsFormed has) (sym e) h
  formed_in has (node o ts) u h (inr e) = formed_among has ts u h.2 e

  formed_among : (has : Op → Bool) (ts : Trees) (u : Tree) → AreFormed has ts → OccursIn u ts → IsFormed has u
  formed_among has none u h e = absurd e
  formed_among has (more t ts) u h (inl e) = formed_in has t u h.0 e
  formed_among has (more t ts) u h (inr e) = formed_among has ts u h.1 e

formed_one : (has : Op → Bool) (frame : List Tree) (u : Tree) → AllByRecursion (IsFormed has) frame → OccursInOne frame u → IsFormed has u
formed_one has [] u h e = absurd e
formed_one has (t ∷ frame) u h (inl e) = formed_in has t u h.0 e
formed_one has (t ∷ frame) u h (inr e) = formed_one has frame u h.1 e

one_at : (frame : List Tree) (j : ℕ) (f : Tree) → slice_get frame j ≡ Some f → OccursInOne frame f
one_at [] j f e = cc
one_at (t ∷ frame) zero f e = let s : t ≡ f = cc in let P : Tree → Type 0 = λ v. Occurs v t in inl (subst P s (occurs_itself t))
one_at (t ∷ frame) (suc j) f e = inr (one_at frame j f e)

part_of_term : (has : Op → Bool) (frame : List Tree) (o : Op) (us : Trees) (rs : RecipeTrees) (r : RecipeTree) (j : ℕ) (u : Tree) → IsTrue (has o) → length (list_of us) ≡ arity o → undoable o ≡ true
    → values (terms_over has) frame rs ≡ Some (take (keys o) (list_of us)) → value (terms_over has) frame r ≡ Some (node o us) → slice_get (drop (keys o) (list_of us)) j ≡ Some u
    → value (terms_over has) frame (part o j rs r) ≡ Some u
part_of_term has frame o us rs r j u h n un ek er at =
    let count : length (take (keys o) (list_of us)) ≡ keys o = length-take-le (keys o) (list_of us) (omega (arith, keys_fit o, n)) in
    rw (ek, er, h, eq-eqb (length (take (keys o) (list_of us))) (keys o) count, un, op_itself o, eq-eqb (length (list_of us)) (arity o) n, trees_itself (trees_of (take (keys o) (list_of us)))) at

pub reach_shut : (p : ProtocolValue) (frame S : List Tree) (t : Tree) → AllByRecursion (IsFormed (has_operator p.formats)) frame → IsFormed (has_operator p.formats) t → IsReach p frame S
    → (HasRecipe (has_operator p.formats) frame t → ⊥) → IsShut frame S t
reach_shut p frame S t formed own reach without = record {
  labels = each_from_got (Among S) frame (λ j f e. reach.all f (one_at frame j f e) (label j, e));
  parts = λ o us here u ks. each_from_got (Among S) (drop (keys o) (list_of us)) (λ j v e. held o us here u ks j v e);
  apart = λ c. without (recipe (has_operator p.formats) frame S (λ u h. (reach.held u h).1) t own c);
} where
  held : (o : Op) (us : Trees) → Among S (node o us) → undoable o ≡ true → AllByRecursion (Composes S) (take (keys o) (list_of us)) → (j : ℕ) (v : Tree) → slice_get (drop (keys o) (list_of us)) j ≡ Some v → Among S v
  held o us here u ks j v e =
      let has = has_operator p.formats in
      let a = reach.held (node o us) here in
      let f = formed_one has frame (node o us) formed a.0 in
      let rs = list_recipes has frame S (λ w h. (reach.held w h).1) (take (keys o) (list_of us)) (all_take (IsFormed has) (keys o) (list_of us) (each_formed has us f.2)) ks in
      let k = at_drop (keys o) j (list_of us) v e in
      reach.all v (deeper_one frame o us v (occurs_at us k.0 v k.1) a.0) (part o j rs.0 a.1.0, part_of_term has frame o us rs.0 a.1.0 j v f.0 f.1 u rs.1 a.1.1 e)
