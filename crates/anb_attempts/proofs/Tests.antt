-- The test whether two sides differ in place.
use Rattle.std.proofs.Common.{◌≡◌, ℕ, zero, suc, List, [], ◌∷◌, ◌++◌, length, ◌↔◌, Bool, true, false, IsTrue, Some, refl, sym, ap, ◌∙◌, subst, inl, inr, arith}
use Rattle.std.specs.Prelude.{◌&&◌, ◌||◌, slice_get}
use Rattle.std.proofs.lemmas.Bool.{or_cases, and_parts, and_from}
use Rattle.anb_lemmas.proofs.Bools.{or_true}
use Rattle.anb_term.specs.declared.term.Op.{Op}
use Rattle.anb_term.specs.Operator.{keys, undoable, op_eqb}
use Rattle.anb_term.specs.Tree.{Tree, Trees, leaf, node, none, more, trees_of, list_of, tree_eqb}
use Rattle.anb_term.specs.TreeSame.{list_of-trees_of, trees_of-list_of, op_same, op_itself, tree_same, tree_itself}
use Rattle.anb_probe.specs.Cases.{DifferAt}
use Rattle.anb_attempts.specs.Attempts.{DifferInPlace}
use Rattle.anb_attempts.specs.Differing.{differ, is_spared, some_differ}

no_items : (l : List Tree) → length l ≡ 0 → l ≡ []
no_items [] e = refl
no_items (x ∷ l) e = absurd (omega (arith, e))

same_is : (x y : Tree) → x ≡ y → tree_eqb x y ≡ true
same_is x y e = ap (tree_eqb x) (sym e) ∙ tree_itself x

-- a test that tells whether two operators are one
pub op_told : (b : Bool) (o q : Op) → (IsTrue b → o ≡ q) → (o ≡ q → IsTrue b) → b ≡ op_eqb o q
op_told true o q same is = sym (ap (op_eqb o) (sym (same refl)) ∙ op_itself o)
op_told false o q same is = differs (op_eqb o q) refl where
  differs : (c : Bool) → op_eqb o q ≡ c → false ≡ op_eqb o q
  differs true e = let no : IsTrue false = is (op_same o q e) in cc
  differs false e = sym e

module _ (spare : ℕ) (wrong : Tree) where
  -- two parts differ, with the same number among those of both
  record DifferAmong (ones others : List Tree) : Type 0 where
    i : ℕ
    place : List ℕ
    p : Tree
    q : Tree
    one_here : slice_get ones i ≡ Some p
    other_here : slice_get others i ≡ Some q
    differs : DifferAt spare wrong place p q

  -- and so many, the first ones, are the same
  record DifferBehind (count : ℕ) (ts us : Trees) : Type 0 where
    keyed : List Tree
    ones : List Tree
    others : List Tree
    one_is : ts ≡ trees_of (keyed ++ ones)
    other_is : us ≡ trees_of (keyed ++ others)
    counted : length keyed ≡ count
    among : DifferAmong ones others

  here : (one other : Tree) → is_spared spare wrong one other ≡ true → DifferAt spare wrong [] one other
  here one other e = elim (or_cases _ _ e) [
    | inl l ↦ (let h = and_parts _ _ l in inl (tree_same one (leaf spare) h.0, tree_same other wrong h.1))
    | inr r ↦ (let h = and_parts _ _ r in inr (tree_same one wrong h.0, tree_same other (leaf spare) h.1))
  ]

  first_differs : (t u : Tree) (ts us : List Tree) → DifferInPlace spare wrong t u → DifferAmong (t ∷ ts) (u ∷ us)
  first_differs t u ts us d = record { i = 0; place = d.0; p = t; q = u; one_here = refl; other_here = refl; differs = d.1 }

  later_differs : (t u : Tree) (ts us : List Tree) → DifferAmong ts us → DifferAmong (t ∷ ts) (u ∷ us)
  later_differs t u ts us d = record { i = suc d.i; place = d.place; p = d.p; q = d.q; one_here = d.one_here; other_here = d.other_here; differs = d.differs }

  none_keyed : (ts us : Trees) → DifferAmong (list_of ts) (list_of us) → DifferBehind 0 ts us
  none_keyed ts us d = record { keyed = []; ones = list_of ts; others = list_of us; one_is = sym (trees_of-list_of ts); other_is = sym (trees_of-list_of us); counted = refl; among = d }

  none_behind : (ts us : Trees) → DifferBehind 0 ts us → DifferAmong (list_of ts) (list_of us)
  none_behind ts us d =
      let none : d.keyed ≡ [] = no_items d.keyed d.counted in
      let one : list_of ts ≡ d.ones = ap list_of d.one_is ∙ list_of-trees_of (d.keyed ++ d.ones) ∙ ap (λ l. l ++ d.ones) none in
      let other : list_of us ≡ d.others = ap list_of d.other_is ∙ list_of-trees_of (d.keyed ++ d.others) ∙ ap (λ l. l ++ d.others) none in
      subst (λ l. DifferAmong l (list_of us)) (sym one) (subst (DifferAmong d.ones) (sym other) d.among)

  one_keyed : (k : ℕ) (t u : Tree) (ts us : Trees) → t ≡ u → DifferBehind k ts us → DifferBehind (suc k) (more t ts) (more u us)
  one_keyed k t u ts us same d = record {
    keyed = t ∷ d.keyed;
    ones = d.ones;
    others = d.others;
    one_is = ap (more t) d.one_is;
    other_is = ap (λ x. more x us) (sym same) ∙ ap (more t) d.other_is;
    counted = ap suc d.counted;
    among = d.among;
  }

  below : (o q : Op) (ts us : Trees) → o ≡ q → IsTrue (undoable o) → DifferBehind (keys o) ts us → DifferInPlace spare wrong (node o ts) (node q us)
  below o q ts us same can d = (
    d.among.i ∷ d.among.place,
    (
      d.among.p,
      d.among.q,
      record {
        op = o;
        keyed = d.keyed;
        ones = d.ones;
        others = d.others;
        one_is = ap (node o) d.one_is;
        other_is = ap (λ x. node x us) (sym same) ∙ ap (node o) d.other_is;
        can = can;
        count = d.counted;
        one_here = d.among.one_here;
        other_here = d.among.other_here;
      },
      d.among.differs,
    ),
  )

  mutual
    told : (one other : Tree) → differ spare wrong one other ≡ true → DifferInPlace spare wrong one other
    told (leaf m) other e = ([], here (leaf m) other e)
    told (node o ts) (leaf n) e = ([], here (node o ts) (leaf n) e)
    told (node o ts) (node q us) e =
        let h = and_parts (op_eqb o q && undoable o) (some_differ spare wrong (keys o) ts us) e in
        let g = and_parts (op_eqb o q) (undoable o) h.0 in
        below o q ts us (op_same o q g.0) g.1 (told_behind (keys o) ts us h.1)

    told_behind : (k : ℕ) (ts us : Trees) → some_differ spare wrong k ts us ≡ true → DifferBehind k ts us
    told_behind k none us e = absurd (cc)
    told_behind k (more t ts) none e = absurd (cc)
    told_behind zero (more t ts) (more u us) e = none_keyed (more t ts) (more u us) (elim (or_cases (differ spare wrong t u) (some_differ spare wrong zero ts us) e) [
      | inl l ↦ first_differs t u (list_of ts) (list_of us) (told t u l)
      | inr r ↦ later_differs t u (list_of ts) (list_of us) (none_behind ts us (told_behind zero ts us r))
    ])
    told_behind (suc k) (more t ts) (more u us) e =
        let h = and_parts (tree_eqb t u) (some_differ spare wrong k ts us) e in one_keyed k t u ts us (tree_same t u h.0) (told_behind k ts us h.1)

  -- and back
  spared_left : (other : Tree) → other ≡ wrong → is_spared spare wrong (leaf spare) other ≡ true
  spared_left other e = ap (λ b. b || (tree_eqb (leaf spare) wrong && tree_eqb other (leaf spare))) (and_from _ _ (tree_itself (leaf spare)) (same_is other wrong e))

  spared_right : (one : Tree) → one ≡ wrong → is_spared spare wrong one (leaf spare) ≡ true
  spared_right one e =
      let left = tree_eqb one (leaf spare) && tree_eqb (leaf spare) wrong in
      ap (λ b. left || b) (and_from _ _ (same_is one wrong e) (tree_itself (leaf spare))) ∙ or_true left

  at_leaf : (one : Tree) (n : ℕ) → differ spare wrong one (leaf n) ≡ is_spared spare wrong one (leaf n)
  at_leaf (leaf m) n = refl
  at_leaf (node o ts) n = refl

  among : (ones others : List Tree) (i : ℕ) (p q : Tree) → slice_get ones i ≡ Some p → slice_get others i ≡ Some q → differ spare wrong p q ≡ true
      → some_differ spare wrong 0 (trees_of ones) (trees_of others) ≡ true
  among [] others i p q e f d = absurd (cc)
  among (x ∷ xs) [] i p q e f d = absurd (cc)
  among (x ∷ xs) (y ∷ ys) zero p q e f d =
      let a : x ≡ p = cc in
      let b : y ≡ q = cc in
      ap (λ c. c || some_differ spare wrong 0 (trees_of xs) (trees_of ys)) (ap (λ t. differ spare wrong t y) a ∙ ap (differ spare wrong p) b ∙ d)
  among (x ∷ xs) (y ∷ ys) (suc i) p q e f d = ap (λ c. differ spare wrong x y || c) (among xs ys i p q e f d) ∙ or_true (differ spare wrong x y)

  among_keyed : (keyed ones others : List Tree) (i : ℕ) (p q : Tree) → slice_get ones i ≡ Some p → slice_get others i ≡ Some q → differ spare wrong p q ≡ true
      → some_differ spare wrong (length keyed) (trees_of (keyed ++ ones)) (trees_of (keyed ++ others)) ≡ true
  among_keyed [] ones others i p q e f d = among ones others i p q e f d
  among_keyed (k ∷ ks) ones others i p q e f d = and_from _ _ (tree_itself k) (among_keyed ks ones others i p q e f d)

  kept : (place : List ℕ) (one other : Tree) → DifferAt spare wrong place one other → differ spare wrong one other ≡ true
  kept [] one other (inl d) = ap (λ t. differ spare wrong t other) d.0 ∙ spared_left other d.1
  kept [] one other (inr d) = ap (differ spare wrong one) d.1 ∙ at_leaf one spare ∙ spared_right one d.0
  kept (i ∷ place) one other d =
      let b = d.2 in
      let ones = trees_of (b.keyed ++ b.ones) in
      let others = trees_of (b.keyed ++ b.others) in
      let inner = among_keyed b.keyed b.ones b.others i d.0 d.1 b.one_here b.other_here (kept place d.0 d.1 d.3) in
      ap (λ t. differ spare wrong t other) b.one_is ∙ ap (differ spare wrong (node b.op ones)) b.other_is
      ∙ and_from (op_eqb b.op b.op && undoable b.op) (some_differ spare wrong (keys b.op) ones others) (and_from (op_eqb b.op b.op) (undoable b.op) (op_itself b.op) b.can) (subst (λ k. some_differ spare wrong k ones others ≡ true) b.count inner)

  pub is_told : (one other : Tree) (b : Bool) → b ≡ differ spare wrong one other → IsTrue b ↔ DifferInPlace spare wrong one other
  is_told one other b e = (λ t. told one other (sym e ∙ t), λ d. e ∙ kept d.0 one other d.1)
