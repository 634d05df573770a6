-- Patterns whose variables are numbered in order are one.
use Rattle.std.proofs.Common.{◌≡◌, ℕ, zero, suc, ◌+◌, ◌<◌, List, [], ◌∷◌, ◌++◌, map, refl, sym, ap, ◌∙◌, subst, arith, inl, inr, ◌⊎◌}
use Rattle.std.specs.List.{AllByRecursion}
use Rattle.anb_lemmas.proofs.Each.{each_in_parts}
use Rattle.anb_term.specs.Tree.{Tree, leaf, node, Trees, none, more, trees_of}
use Rattle.anb_term.specs.FreeAlgebra.{terms}
use Rattle.anb_plays.specs.Honest.{honest_all}
use Rattle.anb_protocol.specs.Texts.{atoms_in, atoms_in_all, atoms_in_each}
use Rattle.anb_accept.specs.Laws.{PatternsAreUnique}
use Rattle.anb_accept.specs.Numbering.{AreInOrder}
use Rattle.anb_unify.specs.Substitutions.{put_in}
use Rattle.anb_unify.proofs.Putting.{each_itself}

leaf_number : (n m : ℕ) → leaf n ≡ leaf m → n ≡ m
leaf_number n m e = cc

module _ (p q : ℕ → Tree) where
  -- each variable of one is a variable of the other, there and back
  abbrev Paired : List ℕ → List ℕ → Type 0
  Paired [] [] = Unit {0}
  Paired [] (m ∷ ms) = ⊥
  Paired (n ∷ ns) [] = ⊥
  Paired (n ∷ ns) (m ∷ ms) = (p n ≡ leaf m) × (q m ≡ leaf n) × Paired ns ms

  paired_on : (xs ys ns ms : List ℕ) → Paired xs ys → Paired ns ms → Paired (xs ++ ns) (ys ++ ms)
  paired_on [] [] ns ms h g = g
  paired_on [] (y ∷ ys) ns ms h g = absurd h
  paired_on (x ∷ xs) [] ns ms h g = absurd h
  paired_on (x ∷ xs) (y ∷ ys) ns ms h g = (h.0, h.1, paired_on xs ys ns ms h.2 g)

  paired_leaf : (n : ℕ) (t : Tree) → p n ≡ t → put_in q t ≡ leaf n → Paired (n ∷ []) (atoms_in t)
  paired_leaf n (leaf m) is e = (is, e, tt)
  paired_leaf n (node o ts) is e = cc

  mutual
    paired : (t : Tree) → put_in q (put_in p t) ≡ t → Paired (atoms_in t) (atoms_in (put_in p t))
    paired (leaf n) e = paired_leaf n (p n) refl e
    paired (node o ts) e = all_paired ts (let f : node o (trees_of (honest_all terms q (trees_of (honest_all terms p ts)))) ≡ node o ts = e in cc)

    all_paired : (ts : Trees) → trees_of (honest_all terms q (trees_of (honest_all terms p ts))) ≡ ts → Paired (atoms_in_all ts) (atoms_in_all (trees_of (honest_all terms p ts)))
    all_paired none e = tt
    all_paired (more t ts) e =
        let first : put_in q (put_in p t) ≡ t = cc in
        let rest : trees_of (honest_all terms q (trees_of (honest_all terms p ts))) ≡ ts = cc in
        paired_on (atoms_in t) (atoms_in (put_in p t)) (atoms_in_all ts) (atoms_in_all (trees_of (honest_all terms p ts))) (paired t first) (all_paired ts rest)

  each_paired : (ts : List Tree) → map (put_in q) (map (put_in p) ts) ≡ ts → Paired (atoms_in_each ts) (atoms_in_each (map (put_in p) ts))
  each_paired [] e = tt
  each_paired (t ∷ ts) e =
      let first : put_in q (put_in p t) ≡ t = cc in
      let rest : map (put_in q) (map (put_in p) ts) ≡ ts = cc in
      paired_on (atoms_in t) (atoms_in (put_in p t)) (atoms_in_each ts) (atoms_in_each (map (put_in p) ts)) (paired t first) (each_paired ts rest)

  -- so far each is itself
  abbrev AreFixed : ℕ → Type 0
  AreFixed next = (k : ℕ) → k < next → (p k ≡ leaf k) × (q k ≡ leaf k)

  less : (k next : ℕ) → k < suc next → (k < next) ⊎ (k ≡ next)
  less zero zero h = inr refl
  less zero (suc next) h = inl (omega arith)
  less (suc k) zero h = absurd (omega arith)
  less (suc k) (suc next) h = elim (less k next (omega arith)) [ inl l ↦ inl (omega arith) | inr e ↦ inr (ap suc e) ]

  fixed_next : (next : ℕ) → AreFixed next → p next ≡ leaf next → q next ≡ leaf next → AreFixed (suc next)
  fixed_next next fixed a b k h = elim (less k next h) [ inl l ↦ fixed k l | inr e ↦ (ap p e ∙ a ∙ ap leaf (sym e), ap q e ∙ b ∙ ap leaf (sym e)) ]

  all_fixed : (next end last : ℕ) (ns ms : List ℕ) → AreFixed next → Paired ns ms → AreInOrder next end ns → AreInOrder next last ms → AllByRecursion (λ n. p n ≡ leaf n) ns
  all_fixed next end last [] ms fixed pairs one other = tt
  all_fixed next end last (n ∷ ns) [] fixed pairs one other = absurd pairs
  all_fixed next end last (n ∷ ns) (m ∷ ms) fixed pairs (inl g) (inl h) = ((fixed n g.0).0, all_fixed next end last ns ms fixed pairs.2 g.1 h.1)
  all_fixed next end last (n ∷ ns) (m ∷ ms) fixed pairs (inl g) (inr h) =
      let same = leaf_number n m (sym (fixed n g.0).0 ∙ pairs.0) in absurd (omega (arith, same, g.0, h.0))
  all_fixed next end last (n ∷ ns) (m ∷ ms) fixed pairs (inr g) (inl h) =
      let same = leaf_number m n (sym (fixed m h.0).1 ∙ pairs.1) in absurd (omega (arith, same, g.0, h.0))
  all_fixed next end last (n ∷ ns) (m ∷ ms) fixed pairs (inr g) (inr h) =
      let a : p next ≡ leaf next = ap p (sym g.0) ∙ pairs.0 ∙ ap leaf h.0 in
      let b : q next ≡ leaf next = ap q (sym h.0) ∙ pairs.1 ∙ ap leaf g.0 in
      (ap p g.0 ∙ a ∙ ap leaf (sym g.0), all_fixed (suc next) end last ns ms (fixed_next next fixed a b) pairs.2 g.1 h.1)

mutual
  put_fixed : (p : ℕ → Tree) (t : Tree) → AllByRecursion (λ n. p n ≡ leaf n) (atoms_in t) → put_in p t ≡ t
  put_fixed p (leaf n) h = h.0
  put_fixed p (node o ts) h = ap (node o) (put_all_fixed p ts h)

  put_all_fixed : (p : ℕ → Tree) (ts : Trees) → AllByRecursion (λ n. p n ≡ leaf n) (atoms_in_all ts) → trees_of (honest_all terms p ts) ≡ ts
  put_all_fixed p none h = refl
  put_all_fixed p (more t ts) h =
      let b = each_in_parts (λ n. p n ≡ leaf n) (atoms_in t) (atoms_in_all ts) h in
      ap (λ u. more u (trees_of (honest_all terms p ts))) (put_fixed p t b.0) ∙ ap (more t) (put_all_fixed p ts b.1)

each_fixed : (p : ℕ → Tree) (ts : List Tree) → AllByRecursion (λ n. p n ≡ leaf n) (atoms_in_each ts) → map (put_in p) ts ≡ ts
each_fixed p [] h = refl
each_fixed p (t ∷ ts) h =
    let b = each_in_parts (λ n. p n ≡ leaf n) (atoms_in t) (atoms_in_each ts) h in
    ap (λ u. u ∷ map (put_in p) ts) (put_fixed p t b.0) ∙ ap (λ l. t ∷ l) (each_fixed p ts b.1)

pub patterns_are_unique : PatternsAreUnique
patterns_are_unique has names plan one other are too numbered likewise =
    let i = are.instances other (too.taken other (record { put = leaf; keeps = λ n h. refl; is = sym (each_itself other) })) in
    let j = too.instances one (are.taken one (record { put = leaf; keeps = λ n h. refl; is = sym (each_itself one) })) in
    let back : map (put_in j.put) (map (put_in i.put) one) ≡ one = ap (map (put_in j.put)) (sym i.is) ∙ sym j.is in
    let in_order = subst (λ l. AreInOrder names (names + likewise.count) (atoms_in_each l)) i.is likewise.in_order in
    let fixed = all_fixed i.put j.put names (names + numbered.count) (names + likewise.count) (atoms_in_each one) (atoms_in_each (map (put_in i.put) one)) (λ k h. (i.keeps k h, j.keeps k h)) (each_paired i.put j.put one back) numbered.in_order in_order in
    sym (each_fixed i.put one fixed) ∙ sym i.is
