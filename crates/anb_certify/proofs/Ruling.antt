-- The rules over exact classes: a register that passes keeps them.
use Rattle.std.proofs.Common.{◌≡◌, ℕ, zero, suc, ◌+◌, ◌<◌, List, [], ◌∷◌, ◌++◌, length, map, set, take, Bool, true, false, Some, refl, sym, ap, ◌∙◌, subst, inl, inr, ◌⊎◌, ⊎_elim, arith}
use Rattle.std.specs.Prelude.{slice_get, ◌↔◌}
use Rattle.std.specs.List.{AllByRecursion, list_all}
use Rattle.anb_lemmas.proofs.Numbers.{same_or_not}
use Rattle.anb_lemmas.proofs.Lists.{got_within}
use Rattle.anb_term.specs.declared.term.Op.{Op}
use Rattle.anb_term.specs.Operator.{keys, undoable}
use Rattle.anb_term.specs.Tree.{Tree, leaf, node, Trees, trees_of, list_of}
use Rattle.anb_term.specs.TreeSame.{list_of-trees_of}
use Rattle.anb_term.specs.Composes.{Composes}
use Rattle.anb_term.specs.Lawful.{picked}
use Rattle.anb_term.proofs.Lists.{slice_get-there, set-other, set-same, set-at}
use Rattle.anb_intern.specs.declared.node.Node.{Node}
use Rattle.anb_intern.specs.declared.node.Node.TheVariants.{Atom, Apply}
use Rattle.anb_intern.specs.Nodes.{operands_at, tree_at, IsOver}
use Rattle.anb_intern.proofs.Nodes.{under_take, operands_take}
use Rattle.anb_plays.specs.Codes.{Work, make, undo, equal}
use Rattle.anb_certify.specs.Classes.{in_class, Saturated}
use Rattle.anb_reason.specs.Decided.{composes}
use Rattle.anb_reason.specs.Flags.{all_flagged, is_wanted}
use Rattle.anb_certify.specs.Tied.{Did, InPairs, Tied, KeepsRules}
use Rattle.anb_certify.specs.Numbered.{AreGrouped, IsKnown, AreKnown, Passes}
use Rattle.anb_certify.specs.Progress.{wanted_test, HaveKnown}
use Rattle.anb_certify.proofs.Classing.{Classed, classed, in_one}
use Rattle.anb_reason.proofs.Deciding.{decides, decided, all_from, all_true}
use Rattle.anb_certify.proofs.Fitting.{did_cases}
use Rattle.anb_reason.proofs.Flagging.{flags_are}
use Rattle.anb_certify.proofs.Linking.{same_name}
use Rattle.anb_certify.proofs.Telling.{tied_alike, built_alike, undone_alike}
use Rattle.anb_certify.proofs.Tied.{node_is}

-- ---- what is known

own_make : (did : List (ℕ × Work)) (names : List ℕ) (at : ℕ) (o : Op) (ns : List ℕ) (c : ℕ) → slice_get names at ≡ Some c → (d : ℕ) → IsKnown (did ++ (at, make o ns) ∷ []) names d → IsKnown did names d ⊎ (c ≡ d)
own_make did names at o ns c e d (inl k) = ⊎_elim (λ a. inl (inl (k.0, k.1, k.2, a, k.4))) (λ b. inr (let f : Some c ≡ Some d = sym e ∙ ap (slice_get names) b.0 ∙ k.4 in cc)) (did_cases did at k.0 (make o ns) (make k.1 k.2) k.3)
own_make did names at o ns c e d (inr k) = ⊎_elim (λ a. inl (inr (k.0, k.1, k.2, k.3, a, k.5))) (λ b. let f = b.1 in absurd (let g : make o ns ≡ undo k.1 k.2 k.3 = f in cc)) (did_cases did at k.0 (make o ns) (undo k.1 k.2 k.3) k.4)

own_undo : (did : List (ℕ × Work)) (names : List ℕ) (at : ℕ) (o : Op) (ks : List ℕ) (n c : ℕ) → slice_get names n ≡ Some c → (d : ℕ) → IsKnown (did ++ (at, undo o ks n) ∷ []) names d → IsKnown did names d ⊎ (c ≡ d)
own_undo did names at o ks n c e d (inl k) = ⊎_elim (λ a. inl (inl (k.0, k.1, k.2, a, k.4))) (λ b. let f = b.1 in absurd (let g : undo o ks n ≡ make k.1 k.2 = f in cc)) (did_cases did at k.0 (undo o ks n) (make k.1 k.2) k.3)
own_undo did names at o ks n c e d (inr k) = ⊎_elim (λ a. inl (inr (k.0, k.1, k.2, k.3, a, k.5))) (λ b. inr (let w = b.1 in let s : n ≡ k.3 = cc in let f : Some c ≡ Some d = sym e ∙ ap (slice_get names) s ∙ k.5 in cc)) (did_cases did at k.0 (undo o ks n) (undo k.1 k.2 k.3) k.4)

own_equal : (did : List (ℕ × Work)) (names : List ℕ) (at a b d : ℕ) → IsKnown (did ++ (at, equal a b) ∷ []) names d → IsKnown did names d
own_equal did names at a b d (inl k) = ⊎_elim (λ x. inl (k.0, k.1, k.2, x, k.4)) (λ y. let f = y.1 in absurd (let g : equal a b ≡ make k.1 k.2 = f in cc)) (did_cases did at k.0 (equal a b) (make k.1 k.2) k.3)
own_equal did names at a b d (inr k) = ⊎_elim (λ x. inr (k.0, k.1, k.2, k.3, x, k.5)) (λ y. let f = y.1 in absurd (let g : equal a b ≡ undo k.1 k.2 k.3 = f in cc)) (did_cases did at k.0 (equal a b) (undo k.1 k.2 k.3) k.4)

did_more : (did : List (ℕ × Work)) (x : ℕ × Work) (at : ℕ) (w : Work) → Did did at w → Did (did ++ x ∷ []) at w
did_more [] x at w d = absurd d
did_more (y ∷ did) x at w (inl d) = inl d
did_more (y ∷ did) x at w (inr d) = inr (did_more did x at w d)

did_last : (did : List (ℕ × Work)) (at : ℕ) (w : Work) → Did (did ++ (at, w) ∷ []) at w
did_last [] at w = inl (refl, refl)
did_last (y ∷ did) at w = inr (did_last did at w)

known_more : (did : List (ℕ × Work)) (names : List ℕ) (x : ℕ × Work) (d : ℕ) → IsKnown did names d → IsKnown (did ++ x ∷ []) names d
known_more did names x d (inl k) = inl (k.0, k.1, k.2, did_more did x k.0 (make k.1 k.2) k.3, k.4)
known_more did names x d (inr k) = inr (k.0, k.1, k.2, k.3, did_more did x k.0 (undo k.1 k.2 k.3) k.4, k.5)

-- a class more is known
one_known : (old new : List (ℕ × Work)) (names : List ℕ) (flags : List Bool) (c : ℕ) → AreKnown old names flags → c < length flags → ((d : ℕ) → IsKnown new names d → IsKnown old names d ⊎ (c ≡ d)) → ((d : ℕ) → IsKnown old names d → IsKnown new names d)
    → IsKnown new names c → AreKnown new names (set flags c true)
one_known old new names flags c h l only more own d = (
  λ e. ⊎_elim (λ a. subst (IsKnown new names) (sym a.0) own) (λ b. more d ((h d).0 b)) (set-at flags c d true true e),
  λ k. ⊎_elim (λ a. ⊎_elim (λ s. at_own d s) (λ n. set-other flags c d true true ((h d).1 a) n) (same_or_not c d)) (λ b. at_own d b) (only d k),
) where
  at_own : (d : ℕ) → c ≡ d → slice_get (set flags c true) d ≡ Some true
  at_own d s = let x = slice_get-there flags c l in subst (λ z. slice_get (set flags c true) z ≡ Some true) s (set-same flags c true x.0 x.1)

pub make_known : (did : List (ℕ × Work)) (names : List ℕ) (flags : List Bool) (at : ℕ) (o : Op) (ns : List ℕ) (c : ℕ) → AreKnown did names flags → c < length flags → slice_get names at ≡ Some c → AreKnown (did ++ (at, make o ns) ∷ []) names (set flags c true)
make_known did names flags at o ns c h l e =
    one_known did (did ++ (at, make o ns) ∷ []) names flags c h l (λ d k. own_make did names at o ns c e d k) (λ d k. known_more did names (at, make o ns) d k) (inl (at, o, ns, did_last did at (make o ns), e))

pub undo_known : (did : List (ℕ × Work)) (names : List ℕ) (flags : List Bool) (at : ℕ) (o : Op) (ks : List ℕ) (n c : ℕ) → AreKnown did names flags → c < length flags → slice_get names n ≡ Some c → AreKnown (did ++ (at, undo o ks n) ∷ []) names (set flags c true)
undo_known did names flags at o ks n c h l e =
    one_known did (did ++ (at, undo o ks n) ∷ []) names flags c h l (λ d k. own_undo did names at o ks n c e d k) (λ d k. known_more did names (at, undo o ks n) d k) (inr (at, o, ks, n, did_last did at (undo o ks n), e))

pub equal_known : (did : List (ℕ × Work)) (names : List ℕ) (flags : List Bool) (at a b : ℕ) → AreKnown did names flags → AreKnown (did ++ (at, equal a b) ∷ []) names flags
equal_known did names flags at a b h d = (λ e. known_more did names (at, equal a b) d ((h d).0 e), λ k. (h d).1 (own_equal did names at a b d k))

-- the same of flags that are set only for what is known
have_one : (did : List (ℕ × Work)) (names : List ℕ) (flags : List Bool) (c : ℕ) → HaveKnown did names flags → IsKnown did names c → HaveKnown did names (set flags c true)
have_one did names flags c h own d e = ⊎_elim (λ a. subst (IsKnown did names) (sym a.0) own) (λ b. h d b) (set-at flags c d true true e)

pub make_had : (did : List (ℕ × Work)) (names : List ℕ) (flags : List Bool) (at : ℕ) (o : Op) (ns : List ℕ) (c : ℕ) → Did did at (make o ns) → slice_get names at ≡ Some c → HaveKnown did names flags → HaveKnown did names (set flags c true)
make_had did names flags at o ns c d e h = have_one did names flags c h (inl (at, o, ns, d, e))

pub undo_had : (did : List (ℕ × Work)) (names : List ℕ) (flags : List Bool) (at : ℕ) (o : Op) (ks : List ℕ) (n c : ℕ) → Did did at (undo o ks n) → slice_get names n ≡ Some c → HaveKnown did names flags → HaveKnown did names (set flags c true)
undo_had did names flags at o ks n c d e h = have_one did names flags c h (inr (at, o, ks, n, d, e))

pub none_known : (names : List ℕ) (d : ℕ) → IsKnown [] names d → ⊥
none_known names d (inl k) = absurd k.3
none_known names d (inr k) = absurd k.4

-- ---- what is wanted

pub wanted_is : (S ts : List Tree) (flags : List Bool) (k : Node) → flags ≡ map (composes S) ts → IsOver (length ts) k → is_wanted flags k ≡ wanted_test S (tree_at ts k)
wanted_is S ts flags (Atom n) is u = refl
wanted_is S ts flags (Apply o ids) is u =
    let us = operands_at ts ids.items in
    let l = list_of-trees_of us in
    let a : all_flagged flags ids.items ≡ list_all (composes S) (list_of (trees_of us)) = flags_are (composes S) ts flags is ids.items u ∙ ap (list_all (composes S)) (sym l) in
    let b : all_flagged flags (take (keys o) ids.items) ≡ list_all (composes S) (take (keys o) (list_of (trees_of us))) =
    flags_are (composes S) ts flags is (take (keys o) ids.items) (under_take (length ts) (keys o) ids.items u) ∙ ap (list_all (composes S)) (operands_take ts (keys o) ids.items ∙ ap (take (keys o)) (sym l)) in
    rw (a, b) refl

module _ (did : List (ℕ × Work)) (ts : List Tree) (firsts names : List ℕ) (known : List Bool) (g : AreGrouped ts did firsts) (exact : (a b : ℕ) → Tied did a b ↔ (in_class names a b ≡ true))
    (long : length names ≡ length firsts) (i : ℕ) (t : Tree) (here : slice_get ts i ≡ Some t) (before : (k : ℕ) → k < i → KeepsRules did ts k) where
  one_term : (a b : ℕ) → Tied did a b → slice_get ts a ≡ slice_get ts b
  one_term a b h = tied_alike ts did g.told a b h

  back : (a b : ℕ) → Tied did a b → Tied did b a
  back a b h = λ Q s. s.turned a b (h Q s)

  then : (a b c : ℕ) → Tied did a b → Tied did b c → Tied did a c
  then a b c h k = λ Q s. s.joined a b c (h Q s) (k Q s)

  itself : (a b : ℕ) → a ≡ b → Tied did a b
  itself a b e = λ Q s. subst (λ c. Q a c ≡ true) e (s.itself a)

  below : (f k : ℕ) → f < suc k → (f < k) ⊎ (f ≡ k)
  below zero zero l = inr refl
  below zero (suc k) l = inl (omega arith)
  below (suc f) zero l = absurd (omega (arith, l))
  below (suc f) (suc k) l = ⊎_elim (λ a. inl (omega (arith, a))) (λ b. inr (ap suc b)) (below f k (omega (arith, l)))

  module _ (knows : HaveKnown did names known) (p : Passes firsts names known (wanted_test ts t) i) where
    first_tied : Tied did p.first i
    first_tied = (exact p.first i).1 (in_one names p.first i p.class p.of_first p.of_it)

    earlier_tied : (k : ℕ) → k < i → slice_get ts k ≡ Some t → Tied did k i
    earlier_tied k l e =
        let f : slice_get firsts k ≡ Some p.first = g.alike k i (e ∙ sym here) ∙ p.is_first in
        let at : slice_get ts p.first ≡ Some t = g.there k p.first f ∙ e in
        let tied : Tied did p.first k = ⊎_elim (λ less. (before k l).alike p.first t less at e) (λ s. itself p.first k s) (below p.first k (g.least k p.first f)) in
        then k p.first i (back p.first k tied) first_tied

    known_here : wanted_test ts t ≡ true → IsKnown did names p.class
    known_here w = knows p.class (p.as_wanted w)

    of_class : (a : ℕ) → slice_get names a ≡ Some p.class → Tied did i a
    of_class a e = (exact i a).1 (in_one names i a p.class p.of_it e)

    op_of : (a : ℕ) (o q : Op) (us ws : Trees) → t ≡ node o us → Tied did i a → slice_get ts a ≡ Some (node q ws) → o ≡ q
    op_of a o q us ws e tied at =
        let f : Some (node o us) ≡ Some (node q ws) = ap Some (sym e) ∙ sym here ∙ one_term i a tied ∙ at in
        (node_is o q us ws cc).0

    by_hash : (o : Op) (us : Trees) → t ≡ node o us → undoable o ≡ false → IsKnown did names p.class → (at : ℕ) × (q : Op) × (ns : List ℕ) × (undoable q ≡ false) × Did did at (make q ns) × Tied did i at
    by_hash o us e u (inl k) =
        let tied = of_class k.0 k.4 in
        let s = op_of k.0 o k.1 us _ e tied (g.told k.0 (make k.1 k.2) k.3).2 in
        (k.0, k.1, k.2, sym (ap undoable s) ∙ u, k.3, tied)
    by_hash o us e u (inr k) =
        let tied = of_class k.3 k.5 in
        let x = g.told k.0 (undo k.1 k.2 k.3) k.4 in
        let s = op_of k.3 o k.1 us _ e tied x.5 in
        absurd (let f : true ≡ false = sym x.0 ∙ sym (ap undoable s) ∙ u in let none : ⊥ = cc in none)

    by_other : (o : Op) (us : Trees) → t ≡ node o us → IsKnown did names p.class
        → ((at : ℕ) × (ns : List ℕ) × Did did at (make o ns) × Tied did i at) ⊎ ((at : ℕ) × (q : Op) × (ks : List ℕ) × (n : ℕ) × Did did at (undo q ks n) × Tied did i n)
    by_other o us e (inl k) =
        let tied = of_class k.0 k.4 in
        let s = op_of k.0 o k.1 us _ e tied (g.told k.0 (make k.1 k.2) k.3).2 in
        inl (k.0, k.2, subst (λ q. Did did k.0 (make q k.2)) (sym s) k.3, tied)
    by_other o us e (inr k) = inr (k.0, k.1, k.2, k.3, k.4, of_class k.3 k.5)

    hash_wanted : (o : Op) (us : Trees) → t ≡ node o us → undoable o ≡ false → AllByRecursion (Composes ts) (list_of us) → wanted_test ts t ≡ true
    hash_wanted o us e u all = rw (e, u) (all_from (Composes ts) (composes ts) (decides ts) (list_of us) all)

    other_wanted : (o : Op) (us : Trees) → t ≡ node o us → undoable o ≡ true → AllByRecursion (Composes ts) (take (keys o) (list_of us)) → wanted_test ts t ≡ true
    other_wanted o us e u all = rw (e, u) (all_from (Composes ts) (composes ts) (decides ts) (take (keys o) (list_of us)) all)

    pub passes_keeps : KeepsRules did ts i
    passes_keeps = record {
      alike = λ k u l ek ei. earlier_tied k l (ek ∙ sym ei ∙ here);
      hashes = λ o us ei u all. let e : t ≡ node o us = (let f : Some t ≡ Some (node o us) = sym here ∙ ei in cc) in by_hash o us e u (known_here (hash_wanted o us e u all));
      others = λ o us ei u all. let e : t ≡ node o us = (let f : Some t ≡ Some (node o us) = sym here ∙ ei in cc) in by_other o us e (known_here (other_wanted o us e u all));
    }

  module _ (all : (c : ℕ) → IsKnown did names c → slice_get known c ≡ Some true) (keeps : KeepsRules did ts i) where
    there : (xs : List ℕ) → length xs ≡ length ts → (x : ℕ) × (slice_get xs i ≡ Some x)
    there xs l = slice_get-there xs i (omega (arith, l, got_within ts i t here))

    name_of : (a : ℕ) → Tied did i a → (c : ℕ) → slice_get names i ≡ Some c → slice_get names a ≡ Some c
    name_of a tied c e = sym (same_name names i a ((exact i a).0 tied)) ∙ e

    first_is : (f : ℕ) → slice_get firsts i ≡ Some f → Tied did i f
    first_is f e = ⊎_elim (λ less. back f i (keeps.alike f t less (g.there i f e ∙ here) here)) (λ s. itself i f (sym s)) (below f i (g.least i f e))

    known_for : (c : ℕ) → slice_get names i ≡ Some c → (u : Tree) → t ≡ u → (b : Bool) → (o : Op) → (us : Trees) → u ≡ node o us → undoable o ≡ b → wanted_test ts u ≡ true → IsKnown did names c
    known_for c e u s false o us n un w =
        let all = all_true (Composes ts) (composes ts) (decided ts) (list_of us) (let f : wanted_test ts (node o us) ≡ true = subst (λ z. wanted_test ts z ≡ true) n w in let q : wanted_test ts (node o us) ≡ list_all (composes ts) (list_of us) = rw un refl in sym q ∙ f) in
        let h = keeps.hashes o us (here ∙ ap Some (s ∙ n)) un all in
        inl (h.0, h.1, h.2, h.4, name_of h.0 h.5 c e)
    known_for c e u s true o us n un w =
        let all = all_true (Composes ts) (composes ts) (decided ts) (take (keys o) (list_of us)) (let f : wanted_test ts (node o us) ≡ true = subst (λ z. wanted_test ts z ≡ true) n w in let q : wanted_test ts (node o us) ≡ list_all (composes ts) (take (keys o) (list_of us)) = rw un refl in sym q ∙ f) in
        ⊎_elim (λ h. inl (h.0, o, h.1, h.2, name_of h.0 h.3 c e)) (λ h. inr (h.0, h.1, h.2, h.3, h.4, name_of h.3 h.5 c e)) (keeps.others o us (here ∙ ap Some (s ∙ n)) un all)

    known_by : (c : ℕ) → slice_get names i ≡ Some c → (u : Tree) → t ≡ u → wanted_test ts u ≡ true → IsKnown did names c
    known_by c e (leaf n) s w = cc
    known_by c e (node o us) s w = known_for c e (node o us) s (undoable o) o us refl refl w

    pub keeps_passes : Passes firsts names known (wanted_test ts t) i
    keeps_passes =
        let f = there firsts g.long in
        let c = there names (long ∙ g.long) in
        record {
          first = f.0;
          class = c.0;
          is_first = f.1;
          of_first = name_of f.0 (first_is f.0 f.1) c.0 c.1;
          of_it = c.1;
          as_wanted = λ w. all c.0 (known_by c.0 c.1 t refl w);
        }

-- ---- classes by the first of each term

module _ (did : List (ℕ × Work)) (ts : List Tree) (firsts : List ℕ) (g : AreGrouped ts did firsts) where
  same_term : (a b : ℕ) → in_class firsts a b ≡ true → slice_get ts a ≡ slice_get ts b
  same_term a b e = go (classed firsts a b e) where
    go : Classed firsts a b → slice_get ts a ≡ slice_get ts b
    go (inl s) = ap (slice_get ts) s
    go (inr s) = sym (g.there a s.0 s.1) ∙ g.there b s.0 s.2

  pick_same : (ns ms : List ℕ) → InPairs (in_class firsts) ns ms → picked ts ns ≡ picked ts ms
  pick_same [] [] h = refl
  pick_same [] (k ∷ ms) h = absurd h
  pick_same (n ∷ ns) [] h = absurd h
  pick_same (n ∷ ns) (k ∷ ms) h = rw (same_term n k h.0, pick_same ns ms h.1) refl

  one_class : (a b : ℕ) (t : Tree) → slice_get ts a ≡ Some t → slice_get ts a ≡ slice_get ts b → in_class firsts a b ≡ true
  one_class a b t e f =
      let x = slice_get-there firsts a (omega (arith, got_within ts a t e, g.long)) in
      in_one firsts a b x.0 x.1 (sym (g.alike a b f) ∙ x.1)

  pub firsts_saturated : Saturated did firsts
  firsts_saturated = record {
    compared = λ at a b d. let x = g.told at (equal a b) d in one_class a b x.0 x.1 (x.1 ∙ sym x.2);
    built = λ at bt o ns ms d e h. one_class at bt _ (g.told at (make o ns) d).2 (built_alike ts did g.told at bt o ns ms d e (pick_same ns ms h));
    undone = λ at bt o ks ls n k j d e h f l.
        let x = g.told at (undo o ks n) d in
        let q = slice_get-there x.3 j (omega (arith, l, x.4)) in
        one_class (at + j) (bt + j) q.0 (x.6 j (omega (arith, l, x.4)) ∙ q.1) (undone_alike ts did g.told at bt o ks ls n k j d e (pick_same ks ls h) (same_term n k f) l);
  }

-- ---- where works write
