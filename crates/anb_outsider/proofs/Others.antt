-- Other names in what came: it's an instance of patterns exactly where these have none of them.
use Rattle.std.proofs.Common.{◌≡◌, ℕ, zero, suc, ◌+◌, ◌<◌, ◌≤◌, List, [], ◌∷◌, map, Bool, true, false, cond, refl, sym, ap, ◌∙◌, subst, arith}
use Rattle.std.specs.Prelude.{◌==◌, nat_le}
use Rattle.std.proofs.lemmas.Bool.{eq-eqb, eqb-true, leb-true, leb-false}
use Rattle.anb_term.specs.declared.term.Op.{Op}
use Rattle.anb_term.specs.Tree.{Tree, leaf, node, Trees, none, more, trees_of}
use Rattle.anb_term.specs.FreeAlgebra.{terms}
use Rattle.anb_plays.specs.Plans.{Event}
use Rattle.anb_plays.specs.Honest.{honest_all, heard}
use Rattle.anb_pattern.specs.Variables.{count_in, count_in_all, count_in_each}
use Rattle.anb_accept.specs.Patterns.{ArePatterns}
use Rattle.anb_unify.specs.Substitutions.{put_in, KeepsNames}
use Rattle.anb_accept.specs.Taking.{Takes}
use Rattle.anb_unify.proofs.Putting.{map_put_twice}
use Rattle.anb_accept.proofs.Whole.{takes_itself}
use Rattle.anb_outsider.specs.Recordings.{other_name, recorded}

not_above : (names n : ℕ) → n < names → nat_le names n ≡ false
not_above names n l = by (nat_le names n) refl
  where
    by : (b : Bool) → nat_le names n ≡ b → nat_le names n ≡ false
    by true e = let h = leb-true names n e in absurd (omega (arith, l, h))
    by false e = e

below : (names n : ℕ) → nat_le names n ≡ false → n < names
below names n e = leb-false names n e

one_here : (n : ℕ) → count_in n (leaf n) ≡ 1
one_here n = ap (λ b. cond b 1 0) (eq-eqb n n refl)

one_or_other : (n : ℕ) (f g : ℕ → Tree) (a b : ℕ) → 1 ≤ a + b → (1 ≤ a → f n ≡ g n) → (1 ≤ b → f n ≡ g n) → f n ≡ g n
one_or_other n f g zero b some one other = other (omega (arith, some))
one_or_other n f g (suc a) b some one other = one (omega arith)

-- where it stands, two give the same for it
module _ (n : ℕ) (f g : ℕ → Tree) where
  mutual
    same_at : (t : Tree) → 1 ≤ count_in n t → put_in f t ≡ put_in g t → f n ≡ g n
    same_at (leaf m) some e = by (m == n) refl some
      where
        by : (b : Bool) → (m == n) ≡ b → 1 ≤ cond (m == n) 1 0 → f n ≡ g n
        by true is some = let s : m ≡ n = eqb-true m n is in ap f (sym s) ∙ e ∙ ap g s
        by false is some = let z : ◌≡◌ {A = ℕ} (cond (m == n) 1 0) 0 = ap (λ b. cond b 1 0) is in absurd (omega (arith, some, z))
    same_at (node o ts) some e =
        all_same_at ts some (let h : node o (trees_of (honest_all terms f ts)) ≡ node o (trees_of (honest_all terms g ts)) = e in cc)

    all_same_at : (ts : Trees) → 1 ≤ count_in_all n ts → trees_of (honest_all terms f ts) ≡ trees_of (honest_all terms g ts) → f n ≡ g n
    all_same_at none some e = absurd (omega (arith, some))
    all_same_at (more t ts) some e =
        let first : put_in f t ≡ put_in g t = cc in
        let rest : trees_of (honest_all terms f ts) ≡ trees_of (honest_all terms g ts) = cc in
        one_or_other n f g (count_in n t) (count_in_all n ts) some (λ h. same_at t h first) (λ h. all_same_at ts h rest)

  each_same_at : (ts : List Tree) → 1 ≤ count_in_each n ts → map (put_in f) ts ≡ map (put_in g) ts → f n ≡ g n
  each_same_at [] some e = absurd (omega (arith, some))
  each_same_at (t ∷ ts) some e =
      let first : put_in f t ≡ put_in g t = cc in
      let rest : map (put_in f) ts ≡ map (put_in g) ts = cc in
      one_or_other n f g (count_in n t) (count_in_each n ts) some (λ h. same_at t h first) (λ h. each_same_at ts h rest)

module _ (names : ℕ) (other : ℕ → Bool) where
  swap : ℕ → Tree
  swap n = other_name names other n

  -- others in what variables stand for, and each name itself
  mixed : (ℕ → Tree) → ℕ → Tree
  mixed put n = cond (nat_le names n) (put_in swap (put n)) (leaf n)

  mixed_keeps : (put : ℕ → Tree) → KeepsNames names (mixed put)
  unfolding mixed
  mixed_keeps put n l = ap (λ b. cond b (put_in swap (put n)) (leaf n)) (not_above names n l)

  Gone : (ℕ → ℕ) → Type 0
  Gone count = (n : ℕ) → other n ≡ true → count n ≡ 0

  mixed_leaf : (put : ℕ → Tree) → KeepsNames names put → (n : ℕ) → Gone (λ a. count_in a (leaf n)) → put_in swap (put n) ≡ mixed put n
  unfolding mixed swap Gone
  mixed_leaf put keeps n gone = by (nat_le names n) refl
    where
      kept : (b : Bool) → other n ≡ b → swap n ≡ leaf n
      kept true is = let z = gone n is in absurd (omega (arith, z, one_here n))
      kept false is = ap (λ b. leaf (cond b (names + n) n)) is

      by : (b : Bool) → nat_le names n ≡ b → put_in swap (put n) ≡ cond (nat_le names n) (put_in swap (put n)) (leaf n)
      by true is = sym (ap (λ b. cond b (put_in swap (put n)) (leaf n)) is)
      by false is = ap (put_in swap) (keeps n (below names n is)) ∙ kept (other n) refl ∙ sym (ap (λ b. cond b (put_in swap (put n)) (leaf n)) is)

  module _ (put : ℕ → Tree) (keeps : KeepsNames names put) where
    mutual
      unfolding Gone

      mixes : (t : Tree) → Gone (λ a. count_in a t) → put_in (λ n. put_in swap (put n)) t ≡ put_in (mixed put) t
      mixes (leaf n) gone = mixed_leaf put keeps n gone
      mixes (node o ts) gone = ap (λ l. node o (trees_of l)) (all_mix ts gone)

      all_mix : (ts : Trees) → Gone (λ a. count_in_all a ts) → honest_all terms (λ n. put_in swap (put n)) ts ≡ honest_all terms (mixed put) ts
      all_mix none gone = refl
      all_mix (more t ts) gone =
          ap (λ u. u ∷ honest_all terms (λ n. put_in swap (put n)) ts) (mixes t (λ n is. let z = gone n is in omega (arith, z)))
          ∙ ap (λ l. put_in (mixed put) t ∷ l) (all_mix ts (λ n is. let z = gone n is in omega (arith, z)))

    each_mixes : (ts : List Tree) → Gone (λ a. count_in_each a ts) → map (put_in (λ n. put_in swap (put n))) ts ≡ map (put_in (mixed put)) ts
    unfolding Gone
    each_mixes [] gone = refl
    each_mixes (t ∷ ts) gone =
        ap (λ u. u ∷ map (put_in (λ n. put_in swap (put n))) ts) (mixes t (λ n is. let z = gone n is in omega (arith, z)))
        ∙ ap (λ l. put_in (mixed put) t ∷ l) (each_mixes ts (λ n is. let z = gone n is in omega (arith, z)))

  module _ (has : Op → Bool) (plan : List Event) (patterns : List Tree) (are : ArePatterns has names plan patterns) where
    -- where the patterns have none of these names it is taken
    pub taken : ((n : ℕ) → other n ≡ true → count_in_each n patterns ≡ 0) → Takes has plan (recorded names other plan)
    unfolding swap Gone
    taken gone =
        let i = are.instances (heard plan) (takes_itself has plan) in
        are.taken (recorded names other plan) (record {
          put = mixed i.put;
          keeps = mixed_keeps i.put;
          is = ap (map (put_in swap)) i.is ∙ map_put_twice swap i.put patterns ∙ each_mixes i.put i.keeps patterns gone;
        })

    -- and where they have one it isn't
    pub not_taken : (n : ℕ) → n < names → other n ≡ true → 1 ≤ count_in_each n patterns → Takes has plan (recorded names other plan) → ⊥
    unfolding swap
    not_taken n within is some takes =
        let i = are.instances (heard plan) (takes_itself has plan) in
        let j = are.instances (recorded names other plan) takes in
        let both : map (put_in (λ n. put_in swap (i.put n))) patterns ≡ map (put_in j.put) patterns =
        sym (map_put_twice swap i.put patterns) ∙ sym (ap (map (put_in swap)) i.is) ∙ j.is in
        let here : put_in swap (i.put n) ≡ j.put n = each_same_at n (λ n. put_in swap (i.put n)) j.put patterns some both in
        let other_one : put_in swap (i.put n) ≡ leaf (names + n) = ap (put_in swap) (i.keeps n within) ∙ ap (λ b. leaf (cond b (names + n) n)) is in
        let same : leaf (names + n) ≡ leaf n = sym other_one ∙ here ∙ j.keeps n within in
        let number : names + n ≡ n = cc in
        omega (arith, number, within)
