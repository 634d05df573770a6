-- Names and operators of terms that are put into patterns.
use Rattle.std.proofs.Common.{◌≡◌, ℕ, zero, suc, ◌+◌, ◌-◌, ◌<◌, ◌≤◌, List, [], ◌∷◌, ◌++◌, length, map, take, drop, Bool, true, false, cond, Some, refl, ap, ◌∙◌, subst, arith}
use Rattle.std.specs.Prelude.{slice_get, unwrap_or, nat_lt, ◌==◌}
use Rattle.std.specs.List.{AllByRecursion}
use Rattle.std.proofs.lemmas.Bool.{ltb-true}
use Rattle.anb_term.specs.declared.term.Op.{Op}
use Rattle.anb_term.specs.Tree.{Tree, leaf, node, Trees, none, more, trees_of, IsFormed, AreFormed}
use Rattle.anb_term.specs.FreeAlgebra.{terms}
use Rattle.anb_term.proofs.Lists.{map-append}
use Rattle.anb_plays.specs.Honest.{honest_all}
use Rattle.anb_unify.specs.Substitutions.{put_in, IsNamed, AreNamed}
use Rattle.anb_unify.specs.Equations.{atoms_of}
use Rattle.anb_distinguish.specs.Equations.{assigned}
use Rattle.anb_distinguish.specs.Finding.{spared}

-- what holds of names and of the terms of a table holds of each term that is put in the place of an atom
module _ (P : Tree → Type 0) (N : ℕ) (names : (n : ℕ) → n < N → P (leaf n)) (some : 0 < N) where
  nth_holds : (table : List Tree) (i : ℕ) → AllByRecursion P table → P (unwrap_or (slice_get table i) (leaf 0))
  nth_holds [] i all = names 0 some
  nth_holds (t ∷ table) zero all = all.0
  nth_holds (t ∷ table) (suc i) all = nth_holds table i all.1

  by_place : (table : List Tree) (n : ℕ) (b : Bool) → nat_lt n N ≡ b → AllByRecursion P table → P (cond b (leaf n) (unwrap_or (slice_get table (n - N)) (leaf 0)))
  by_place table n true e all = names n (ltb-true n N e)
  by_place table n false e all = nth_holds table (n - N) all

  pub assigned_holds : (table : List Tree) (n : ℕ) → AllByRecursion P table → P (assigned N table n)
  assigned_holds table n all = by_place table n (nat_lt n N) refl all

pub spared_holds : (P : Tree → Type 0) (names v : ℕ) (honest : ℕ → Tree) → P (leaf names) → ((n : ℕ) → P (honest n)) → (n : ℕ) → P (spared names v honest n)
spared_holds P names v honest spare all n = by_test (n == v)
  where
    by_test : (b : Bool) → P (cond b (leaf names) (honest n))
    by_test true = spare
    by_test false = all n

mutual
  named_put : (N : ℕ) (put : ℕ → Tree) → ((n : ℕ) → IsNamed N (put n)) → (t : Tree) → IsNamed N (put_in put t)
  named_put N put all (leaf n) = all n
  named_put N put all (node o ts) = all_named_put N put all ts

  all_named_put : (N : ℕ) (put : ℕ → Tree) → ((n : ℕ) → IsNamed N (put n)) → (ts : Trees) → AreNamed N (trees_of (honest_all terms put ts))
  all_named_put N put all none = tt
  all_named_put N put all (more t ts) = (named_put N put all t, all_named_put N put all ts)

pub each_named_put : (N : ℕ) (put : ℕ → Tree) → ((n : ℕ) → IsNamed N (put n)) → (ts : List Tree) → AreNamed N (trees_of (map (put_in put) ts))
each_named_put N put all [] = tt
each_named_put N put all (t ∷ ts) = (named_put N put all t, each_named_put N put all ts)

pub both_named : (N : ℕ) (xs ys : List Tree) → AreNamed N (trees_of xs) → AreNamed N (trees_of ys) → AreNamed N (trees_of (xs ++ ys))
both_named N [] ys h g = g
both_named N (x ∷ xs) ys h g = (h.0, both_named N xs ys h.1 g)

-- what is put in the places of some atoms
pub formed_atoms : (has : Op → Bool) (put : ℕ → Tree) (ns : List ℕ) → ((n : ℕ) → IsFormed has (put n)) → AreFormed has (trees_of (map put ns))
formed_atoms has put [] all = tt
formed_atoms has put (n ∷ ns) all = (all n, formed_atoms has put ns all)

-- ---- the patterns of the registers that are asked for

pub atoms_both : (N : ℕ) (xs ys : List ℕ) → atoms_of N (xs ++ ys) ≡ atoms_of N xs ++ atoms_of N ys
atoms_both N xs ys = map-append (λ i. N + i) xs ys

pub front_same : {A : Type 0} (f g : ℕ → A) (xs ys : List ℕ) → map f (xs ++ ys) ≡ map g (xs ++ ys) → (map f xs ≡ map g xs) × (map f ys ≡ map g ys)
front_same f g [] ys e = (refl, e)
front_same f g (x ∷ xs) ys e =
    let first : f x ≡ g x = cc in
    let rest : map f (xs ++ ys) ≡ map g (xs ++ ys) = cc in
    let ih = front_same f g xs ys rest in
    (ap (λ t. t ∷ map f xs) first ∙ ap (λ l. g x ∷ l) ih.0, ih.1)

pub record AreParted (f : ℕ → Tree) (N a b : ℕ) (rs ss : List ℕ) (ps : List Tree) : Type 0 where
  pub arrivals : take (length rs) ps ≡ map f (atoms_of N rs)
  pub one : slice_get ps (length rs) ≡ Some (f (N + a))
  pub other : slice_get ps (length rs + 1) ≡ Some (f (N + b))
  pub messages : drop (length rs + 2) ps ≡ map f (atoms_of N ss)
  pub long : length rs + 2 ≤ length ps

pub parted : (f : ℕ → Tree) (N a b : ℕ) (rs ss : List ℕ) → AreParted f N a b rs ss (map f (atoms_of N (rs ++ a ∷ b ∷ ss)))
parted f N a b [] ss = record { arrivals = refl; one = refl; other = refl; messages = refl; long = omega arith }
parted f N a b (r ∷ rs) ss =
    let ih = parted f N a b rs ss in
    let all = map f (atoms_of N (r ∷ (rs ++ a ∷ b ∷ ss))) in
    let one_on : suc (length rs + 1) ≡ suc (length rs) + 1 = omega arith in
    let two_on : suc (length rs + 2) ≡ suc (length rs) + 2 = omega arith in
    let Q : ℕ → Type 0 = λ k. slice_get all k ≡ Some (f (N + b)) in
    let R : ℕ → Type 0 = λ k. drop k all ≡ map f (atoms_of N ss) in
    record {
      arrivals = ap (λ l. f (N + r) ∷ l) ih.arrivals;
      one = ih.one;
      other = subst Q one_on ih.other;
      messages = subst R two_on ih.messages;
      long = omega (arith, ih.long);
    }
