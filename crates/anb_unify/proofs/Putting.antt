-- Terms put in the places of atoms.
use Rattle.std.proofs.Common.{◌≡◌, ℕ, List, [], ◌∷◌, length, map, Bool, refl, sym, ap, ◌∙◌}
use Rattle.std.proofs.lemmas.List.{length-map}
use Rattle.anb_term.specs.declared.term.Op.{Op}
use Rattle.anb_term.specs.Tree.{Tree, leaf, node, Trees, none, more, trees_of, list_of, IsFormed, AreFormed}
use Rattle.anb_term.specs.TreeSame.{list_of-trees_of}
use Rattle.anb_term.specs.FreeAlgebra.{terms}
use Rattle.anb_plays.specs.Honest.{honest_all}
use Rattle.anb_unify.specs.Substitutions.{put_in, KeepsNames, IsNamed, AreNamed}

pub put_all : (put : ℕ → Tree) (ts : Trees) → honest_all terms put ts ≡ map (put_in put) (list_of ts)
put_all put none = refl
put_all put (more t ts) = ap (λ l. put_in put t ∷ l) (put_all put ts)

pub put_each : (put : ℕ → Tree) (ts : List Tree) → honest_all terms put (trees_of ts) ≡ map (put_in put) ts
put_each put ts = put_all put (trees_of ts) ∙ ap (map (put_in put)) (list_of-trees_of ts)

pub put_node : (put : ℕ → Tree) (o : Op) (ts : List Tree) → put_in put (node o (trees_of ts)) ≡ node o (trees_of (map (put_in put) ts))
put_node put o ts = ap (λ l. node o (trees_of l)) (put_each put ts)

mutual
  -- put into what was put
  pub put_twice : (p q : ℕ → Tree) (t : Tree) → put_in p (put_in q t) ≡ put_in (λ n. put_in p (q n)) t
  put_twice p q (leaf n) = refl
  put_twice p q (node o ts) = ap (λ l. node o (trees_of l)) (put_all_twice p q ts)

  pub put_all_twice : (p q : ℕ → Tree) (ts : Trees) → honest_all terms p (trees_of (honest_all terms q ts)) ≡ honest_all terms (λ n. put_in p (q n)) ts
  put_all_twice p q none = refl
  put_all_twice p q (more t ts) = ap (λ u. u ∷ honest_all terms p (trees_of (honest_all terms q ts))) (put_twice p q t) ∙ ap (λ l. put_in (λ n. put_in p (q n)) t ∷ l) (put_all_twice p q ts)

pub map_put_twice : (p q : ℕ → Tree) (ts : List Tree) → map (put_in p) (map (put_in q) ts) ≡ map (put_in (λ n. put_in p (q n))) ts
map_put_twice p q [] = refl
map_put_twice p q (t ∷ ts) = ap (λ u. u ∷ map (put_in p) (map (put_in q) ts)) (put_twice p q t) ∙ ap (λ l. put_in (λ n. put_in p (q n)) t ∷ l) (map_put_twice p q ts)

mutual
  pub put_same : (p q : ℕ → Tree) → ((n : ℕ) → p n ≡ q n) → (t : Tree) → put_in p t ≡ put_in q t
  put_same p q h (leaf n) = h n
  put_same p q h (node o ts) = ap (λ l. node o (trees_of l)) (put_all_same p q h ts)

  put_all_same : (p q : ℕ → Tree) → ((n : ℕ) → p n ≡ q n) → (ts : Trees) → honest_all terms p ts ≡ honest_all terms q ts
  put_all_same p q h none = refl
  put_all_same p q h (more t ts) = ap (λ u. u ∷ honest_all terms p ts) (put_same p q h t) ∙ ap (λ l. put_in q t ∷ l) (put_all_same p q h ts)

length_all : (put : ℕ → Tree) (ts : Trees) → length (honest_all terms put ts) ≡ length (list_of ts)
length_all put ts = ap length (put_all put ts) ∙ length-map (list_of ts) (put_in put)

mutual
  -- what has an instance over some operators is over them
  pub formed_before : (has : Op → Bool) (put : ℕ → Tree) (t : Tree) → IsFormed has (put_in put t) → IsFormed has t
  formed_before has put (leaf n) f = tt
  formed_before has put (node o ts) f =
      (f.0, sym (length_all put ts) ∙ sym (ap length (list_of-trees_of (honest_all terms put ts))) ∙ f.1, all_formed_before has put ts f.2)

  all_formed_before : (has : Op → Bool) (put : ℕ → Tree) (ts : Trees) → AreFormed has (trees_of (honest_all terms put ts)) → AreFormed has ts
  all_formed_before has put none f = tt
  all_formed_before has put (more t ts) f = (formed_before has put t f.0, all_formed_before has put ts f.1)

pub each_formed_before : (has : Op → Bool) (put : ℕ → Tree) (ts : List Tree) → AreFormed has (trees_of (map (put_in put) ts)) → AreFormed has (trees_of ts)
each_formed_before has put [] f = tt
each_formed_before has put (t ∷ ts) f = (formed_before has put t f.0, each_formed_before has put ts f.1)

mutual
  -- names in the places of atoms, and the atoms stay
  pub put_itself : (t : Tree) → put_in leaf t ≡ t
  put_itself (leaf n) = refl
  put_itself (node o ts) = ap (node o) (put_all_itself ts)

  put_all_itself : (ts : Trees) → trees_of (honest_all terms leaf ts) ≡ ts
  put_all_itself none = refl
  put_all_itself (more t ts) = ap (λ u. more u (trees_of (honest_all terms leaf ts))) (put_itself t) ∙ ap (more t) (put_all_itself ts)

pub each_itself : (ts : List Tree) → map (put_in leaf) ts ≡ ts
each_itself [] = refl
each_itself (t ∷ ts) = ap (λ u. u ∷ map (put_in leaf) ts) (put_itself t) ∙ ap (λ l. t ∷ l) (each_itself ts)

mutual
  -- terms over the names stay
  pub named_stays : (names : ℕ) (put : ℕ → Tree) → KeepsNames names put → (t : Tree) → IsNamed names t → put_in put t ≡ t
  named_stays names put keeps (leaf n) h = keeps n h
  named_stays names put keeps (node o ts) h = ap (node o) (all_named_stay names put keeps ts h)

  all_named_stay : (names : ℕ) (put : ℕ → Tree) → KeepsNames names put → (ts : Trees) → AreNamed names ts → trees_of (honest_all terms put ts) ≡ ts
  all_named_stay names put keeps none h = refl
  all_named_stay names put keeps (more t ts) h = ap (λ u. more u (trees_of (honest_all terms put ts))) (named_stays names put keeps t h.0) ∙ ap (more t) (all_named_stay names put keeps ts h.1)
