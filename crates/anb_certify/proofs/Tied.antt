-- Where the registers are tied by the rules, the labels agree.
use Rattle.std.proofs.Common.{◌≡◌, ℕ, zero, suc, ◌+◌, ◌-◌, ◌<◌, ◌≤◌, List, [], ◌∷◌, ◌++◌, length, map, take, drop, Bool, true, false, ◌&&◌, IsTrue, Option, Some, None, refl, sym, ap, ◌∙◌, subst, inl, inr, ◌⊎◌, ⊎_elim, arith, take-append-drop, length-append, length-take-le}
use Rattle.std.proofs.lemmas.List.{length-map}
use Rattle.std.proofs.lemmas.List.Elements.{All-from_recursion}
use Rattle.std.proofs.Math.Dec.{ltb}
use Rattle.std.proofs.lemmas.Bool.{ltb-true, ltb-false, and_parts}
use Rattle.std.proofs.Math.Seq.{take-append_seam, drop-append_seam}
use Rattle.std.specs.Prelude.{slice_get}
use Rattle.std.specs.List.{AllByRecursion}
use Rattle.anb_lemmas.proofs.Each.{each_in_both, each_by}
use Rattle.anb_lemmas.proofs.Lists.{got_within}
use Rattle.anb_term.specs.declared.term.Op.{Op}
use Rattle.anb_term.specs.declared.term.Op.TheVariants.{Hash, Mac, Seal, Wrap, Format}
use Rattle.anb_term.specs.Operator.{arity, keys, undoable}
use Rattle.anb_term.specs.Tree.{Tree, leaf, node, Trees, none, more, trees_of, list_of, tree_eqb}
use Rattle.anb_term.specs.TreeSame.{list_of-trees_of, tree_same, tree_itself}
use Rattle.anb_term.specs.Lawful.{Lawful, AreValues, picked}
use Rattle.anb_term.specs.Value.{Meaning}
use Rattle.anb_term.specs.Composes.{Among, Composes, ComposeAll}
use Rattle.anb_term.specs.Agree.{Agree}
use Rattle.anb_term.proofs.Lists.{all_drop, all_take, map-append}
use Rattle.anb_term.specs.FreeAlgebra.{parts_of}
use Rattle.anb_term.specs.FreeLawful.{parts_are}
use Rattle.anb_term.proofs.Related.{Pairs, Facts, agree_by}
use Rattle.anb_plays.specs.Codes.{Work, make, undo}
use Rattle.anb_basis.specs.Chosen.{terms_in, found, chosen, chosen_all}
use Rattle.anb_certify.specs.Tied.{Did, InPairs, Ties, Tied, AreEnough}
use Rattle.anb_certify.specs.Tables.{vals_in, ComposesBy, ComposeAllBy, Told, Covers, TiedAgree}

mutual
  -- what composes with some operators composes
  by_any : (has : Op → Bool) (es : List Tree) (t : Tree) → ComposesBy has es t → Composes es t
  by_any has es (leaf n) h = h
  by_any has es (node o ts) (inl here) = inl here
  by_any has es (node o ts) (inr all) = inr (all.1, all_by_any has es ts all.2)

  all_by_any : (has : Op → Bool) (es : List Tree) (ts : Trees) → ComposeAllBy has es ts → ComposeAll es ts
  all_by_any has es none h = tt
  all_by_any has es (more t ts) h = (by_any has es t h.0, all_by_any has es ts h.1)

-- registers with one term are tied
tied_by : (b : Bool) (did : List (ℕ × Work)) (ts : List Tree) (i k : ℕ) (t : Tree) → AreEnough did ts → ltb i k ≡ b → slice_get ts i ≡ Some t → slice_get ts k ≡ Some t → i ≤ k → Tied did i k
tied_by true did ts i k t rules l e f h = (rules k (got_within ts k t f)).alike i t (ltb-true i k l) e f
tied_by false did ts i k t rules l e f h = let s : i ≡ k = omega (arith, ltb-false i k l, h) in subst (Tied did i) s (λ Q ties. ties.itself i)

pub alike_tied : (did : List (ℕ × Work)) (ts : List Tree) → AreEnough did ts → (i k : ℕ) (t : Tree) → slice_get ts i ≡ Some t → slice_get ts k ≡ Some t → Tied did i k
alike_tied did ts rules i k t e f = either (ltb i k) refl where
  either : (b : Bool) → ltb i k ≡ b → Tied did i k
  either true l = tied_by true did ts i k t rules l e f (omega (arith, ltb-true i k l))
  either false l = let back = tied_by (ltb k i) did ts k i t rules refl f e (omega (arith, ltb-false i k l)) in λ Q ties. ties.turned k i (back Q ties)

pub parts_of_pair : {A B : Type 0} (x y : A × B) → Some x ≡ Some y → (x.0 ≡ y.0) × (x.1 ≡ y.1)
parts_of_pair x y e = let s : x ≡ y = cc in (ap (λ z. z.0) s, ap (λ z. z.1) s)

pub pair_is : {A B : Type 0} (x y : A × B) → x.0 ≡ y.0 → x.1 ≡ y.1 → x ≡ y
pair_is {A} {B} x y e f = let a : (x.0, x.1) ≡ (y.0, x.1) = ap (λ z. (z, x.1)) e in let b : (y.0, x.1) ≡ (y.0, y.1) = ap (λ z. (y.0, z)) f in a ∙ b

pub node_is : (o p : Op) (ts us : Trees) → node o ts ≡ node p us → (o ≡ p) × (ts ≡ us)
node_is o p ts us e = (cc, cc)

rows_are : {A : Type 0} (xs ys : List (Tree × A)) → terms_in xs ≡ terms_in ys → vals_in xs ≡ vals_in ys → xs ≡ ys
rows_are [] [] e f = refl
rows_are [] (y ∷ ys) e f = cc
rows_are (x ∷ xs) [] e f = cc
rows_are (x ∷ xs) (y ∷ ys) e f =
    let a : x.0 ≡ y.0 = cc in let b : x.1 ≡ y.1 = cc in let c : terms_in xs ≡ terms_in ys = cc in let d : vals_in xs ≡ vals_in ys = cc in
    let p = pair_is x y a b in let q = rows_are xs ys c d in cc

term_at : {A : Type 0} (es : List (Tree × A)) (i : ℕ) (e : Tree × A) → slice_get es i ≡ Some e → slice_get (terms_in es) i ≡ Some (e.0)
term_at [] i e h = cc
term_at (x ∷ es) zero e h = let s : x ≡ e = cc in ap (λ z. Some (z.0)) s
term_at (x ∷ es) (suc i) e h = term_at es i e h

-- a term among those of a table stands in it
row_of : {A : Type 0} (es : List (Tree × A)) (t : Tree) → Among (terms_in es) t → (i : ℕ) × (x : A) × (slice_get es i ≡ Some (t, x))
row_of [] t h = absurd h
row_of (e ∷ es) t (inl s) = (0, e.1, let p : e ≡ (t, e.1) = pair_is e (t, e.1) s refl in ap Some p)
row_of (e ∷ es) t (inr h) = let r = row_of es t h in (suc r.0, r.1, r.2)

among_row : {A : Type 0} (es : List (Tree × A)) (i : ℕ) (e : Tree × A) → slice_get es i ≡ Some e → Among (terms_in es) (e.0)
among_row [] i e h = cc
among_row (x ∷ es) zero e h = let s : x ≡ e = cc in inl (ap (λ z. z.0) s)
among_row (x ∷ es) (suc i) e h = inr (among_row es i e h)

Finds : {A : Type 0} → List (Tree × A) → Tree → Type 0
Finds {A} es t = ((k : ℕ) × (y : A) × (found es t ≡ Some y) × (slice_get es k ≡ Some (t, y))) ⊎ (found es t ≡ None)

further : {A : Type 0} (b : Bool) (e : Tree × A) (es : List (Tree × A)) (t : Tree) → tree_eqb e.0 t ≡ b → Finds es t → Finds (e ∷ es) t
unfolding Finds
further true e es t is w = inl (0, e.1, rw is refl, let p : e ≡ (t, e.1) = pair_is e (t, e.1) (tree_same _ _ is) refl in ap Some p)
further false e es t is (inl w) = inl (suc w.0, w.1, rw is w.2, w.3)
further false e es t is (inr w) = inr (rw is w)

finds : {A : Type 0} (es : List (Tree × A)) (t : Tree) → Finds es t
unfolding Finds
finds [] t = inr refl
finds (e ∷ es) t = further (tree_eqb e.0 t) e es t refl (finds es t)

missed : {A : Type 0} (b : Bool) (e : Tree × A) (es : List (Tree × A)) (i : ℕ) (t : Tree) (x : A) → tree_eqb e.0 t ≡ b
    → ((k : ℕ) → slice_get es k ≡ Some (t, x) → found es t ≡ None → ⊥) → slice_get (e ∷ es) i ≡ Some (t, x) → found (e ∷ es) t ≡ None → ⊥
missed true e es i t x is ih h f = let s : found (e ∷ es) t ≡ Some e.1 = rw is refl in cc
missed false e es zero t x is ih h f = let p = parts_of_pair e (t, x) h in let q : tree_eqb t t ≡ false = subst (λ z. tree_eqb z t ≡ false) p.0 is in let r = tree_itself t in cc
missed false e es (suc k) t x is ih h f = ih k h (let s : found (e ∷ es) t ≡ found es t = rw is refl in sym s ∙ f)

not_missed : {A : Type 0} (es : List (Tree × A)) (i : ℕ) (t : Tree) (x : A) → slice_get es i ≡ Some (t, x) → found es t ≡ None → ⊥
not_missed [] i t x h f = cc
not_missed (e ∷ es) i t x h f = missed (tree_eqb e.0 t) e es i t x refl (λ k. not_missed es k t x) h f

abbrev pub one_row : {A : Type 0} → Tree → A → Option (Tree × A)
one_row t x = Some (t, x)

module _ {A : Type 0} (m : Meaning A) (lawful : Lawful m) (did : List (ℕ × Work)) (es : List (Tree × A)) (told : Told m did es) where
  same_row : Option (Tree × A) → Option (Tree × A) → Bool
  same_row None None = true
  same_row None (Some y) = false
  same_row (Some x) None = false
  same_row (Some x) (Some y) = tree_eqb x.0 y.0 && m.same x.1 y.1

  row_tells : (x y : Option (Tree × A)) → same_row x y ≡ true → x ≡ y
  unfolding same_row
  row_tells None None e = refl
  row_tells None (Some y) e = cc
  row_tells (Some x) None e = cc
  row_tells (Some x) (Some y) e = let b = and_parts (tree_eqb x.0 y.0) (m.same x.1 y.1) e in ap Some (pair_is x y (tree_same _ _ b.0) (lawful.tells _ _ b.1))

  row_itself : (x : Option (Tree × A)) → same_row x x ≡ true
  unfolding same_row
  row_itself None = refl
  row_itself (Some x) = rw (tree_itself x.0) (lawful.itself x.1)

  rows_same : ℕ → ℕ → Bool
  rows_same a b = same_row (slice_get es a) (slice_get es b)

  from_same : (a b : ℕ) → rows_same a b ≡ true → slice_get es a ≡ slice_get es b
  unfolding rows_same
  from_same a b e = row_tells _ _ e

  to_same : (a b : ℕ) → slice_get es a ≡ slice_get es b → rows_same a b ≡ true
  unfolding rows_same
  to_same a b e = subst (λ z. same_row (slice_get es a) z ≡ true) e (row_itself (slice_get es a))

  in_pairs : (ns ks : List ℕ) → InPairs rows_same ns ks → picked es ns ≡ picked es ks
  in_pairs [] [] h = refl
  in_pairs [] (k ∷ ks) h = absurd h
  in_pairs (n ∷ ns) [] h = absurd h
  in_pairs (n ∷ ns) (k ∷ ks) h = rw (from_same n k h.0, in_pairs ns ks h.1) refl

  same_parts : (K L ps qs : List (Tree × A)) (o : Op) (v w : A) → K ≡ L → one_row (node o (trees_of (terms_in (K ++ ps)))) v ≡ one_row (node o (trees_of (terms_in (L ++ qs)))) w
      → m.undone o (vals_in K) v ≡ Some (vals_in ps) → m.undone o (vals_in L) w ≡ Some (vals_in qs) → ps ≡ qs
  same_parts K L ps qs o v w same e f g =
      let p = parts_of_pair (node o (trees_of (terms_in (K ++ ps))), v) (node o (trees_of (terms_in (L ++ qs))), w) e in
      let t : terms_in (K ++ ps) ≡ terms_in (L ++ qs) = sym (list_of-trees_of _) ∙ ap list_of (node_is o o _ _ p.0).1 ∙ list_of-trees_of _ in
      let t2 : terms_in K ++ terms_in ps ≡ terms_in K ++ terms_in qs = sym (map-append (λ e. e.0) K ps) ∙ t ∙ map-append (λ e. e.0) L qs ∙ ap (λ l. terms_in l ++ terms_in qs) (sym same) in
      let t3 : terms_in ps ≡ terms_in qs = sym (drop-append_seam (terms_in K) (terms_in ps)) ∙ ap (drop (length (terms_in K))) t2 ∙ drop-append_seam (terms_in K) (terms_in qs) in
      let u : Some (vals_in ps) ≡ Some (vals_in qs) = sym f ∙ ap (λ l. m.undone o (vals_in l) v) same ∙ ap (m.undone o (vals_in L)) p.1 ∙ g in
      rows_are ps qs t3 cc

  ties : Ties did rows_same
  ties = record {
    itself = λ a. to_same a a refl;
    turned = λ a b h. to_same b a (sym (from_same a b h));
    joined = λ a b c h k. to_same a c (from_same a b h ∙ from_same b c k);
    compared = λ at a b d. to_same a b (told.compared at a b d);
    built = λ at bt o ns ks d e h.
        let x = told.built at o ns d in
        let y = told.built bt o ks e in
        to_same at bt (x.2 ∙ ap (λ l. Some (node o (trees_of (terms_in l)), m.built o (vals_in l))) (in_pairs ns ks h) ∙ sym y.2);
    undone = λ at bt o ks ls n k j d e h same l.
        let x = told.undone at o ks n d in
        let y = told.undone bt o ls k e in
        let row = from_same n k same in
        let ps = same_parts (picked es ks) (picked es ls) x.0 y.0 o x.1 y.1 (in_pairs ks ls h) (sym x.2.4 ∙ row ∙ y.2.4) x.2.5 y.2.5 in
        let count : length x.0 ≡ arity o - keys o = omega (arith, x.2.2, x.2.3, length-append (picked es ks) x.0) in
        let count2 : length y.0 ≡ arity o - keys o = ap length (sym ps) ∙ count in
        to_same (at + j) (bt + j) (x.2.6 j (omega (arith, l, count)) ∙ ap (λ q. slice_get q j) ps ∙ sym (y.2.6 j (omega (arith, l, count2))));
  }

  -- tied registers have one term and one value
  tied : (a b : ℕ) → Tied did a b → slice_get es a ≡ slice_get es b
  tied a b t = from_same a b (t rows_same ties)

  module _ (rules : AreEnough did (terms_in es)) (frame : List Tree) (vs : List A) (covers : Covers m frame vs es) where
    of : Tree → A
    of t = chosen m (m.built Hash []) es t

    P : Tree → Type 0
    P t = ComposesBy m.has (terms_in es) t

    -- two rows with one term are one
    one_value : (i k : ℕ) (t : Tree) (x y : A) → slice_get es i ≡ Some (t, x) → slice_get es k ≡ Some (t, y) → x ≡ y
    one_value i k t x y h g =
        let e = tied i k (alike_tied did (terms_in es) rules i k t (term_at es i (t, x) h) (term_at es k (t, y) g)) in
        (parts_of_pair (t, x) (t, y) (sym h ∙ e ∙ g)).1

    found_is : (i : ℕ) (t : Tree) (x : A) → slice_get es i ≡ Some (t, x) → Finds es t → found es t ≡ Some x
    unfolding Finds
    found_is i t x h (inl w) = w.2 ∙ ap Some (one_value w.0 i t w.1 x w.3 h)
    found_is i t x h (inr n) = absurd (not_missed es i t x h n)

    of_row : (i : ℕ) (t : Tree) (x : A) → slice_get es i ≡ Some (t, x) → of t ≡ x
    unfolding of
    of_row i (leaf n) x h = rw (found_is i (leaf n) x h (finds es (leaf n))) refl
    of_row i (node o us) x h = rw (found_is i (node o us) x h (finds es (node o us))) refl

    p_among : (t : Tree) → Among (terms_in es) t → P t
    unfolding P
    p_among (leaf n) h = h
    p_among (node o us) h = inl h

    Stands : Tree × A → Type 0
    Stands e = (i : ℕ) × (slice_get es i ≡ Some e)

    next : (n : ℕ) (ns : List ℕ) (o : Option (Tree × A)) → slice_get es n ≡ o → AllByRecursion Stands (picked es ns) → AllByRecursion Stands (picked es (n ∷ ns))
    unfolding Stands
    next n ns None e h = rw e h
    next n ns (Some x) e h = rw e ((n, e), h)

    picked_stand : (ns : List ℕ) → AllByRecursion Stands (picked es ns)
    picked_stand [] = tt
    picked_stand (n ∷ ns) = next n ns (slice_get es n) refl (picked_stand ns)

    rows_stand : (qs : List (Tree × A)) → ((j : ℕ) → j < length qs → (i : ℕ) × (slice_get es i ≡ slice_get qs j)) → AllByRecursion Stands qs
    unfolding Stands
    rows_stand [] h = tt
    rows_stand (q ∷ qs) h = (h 0 (omega arith), rows_stand qs (λ j l. h (suc j) (omega (arith, l))))

    standing : (qs : List (Tree × A)) → AllByRecursion Stands qs → AllByRecursion P (terms_in qs) × (map of (terms_in qs) ≡ vals_in qs)
    unfolding Stands
    standing [] h = (tt, refl)
    standing (q ∷ qs) h =
        let ih = standing qs h.1 in
        ((p_among q.0 (among_row es h.0.0 q h.0.1), ih.0), let a : of q.0 ≡ q.1 = of_row h.0.0 q.0 q.1 h.0.1 in cc (a, ih.1))

    -- a value that is its operator on the operands, which compose
    Whole : Op → Trees → A → Type 0
    Whole o us x = IsTrue (m.has o) × (length (list_of us) ≡ arity o) × AllByRecursion P (list_of us) × (x ≡ m.built o (map of (list_of us)))

    whole_of : (o : Op) (qs : List (Tree × A)) (x : A) → IsTrue (m.has o) → length qs ≡ arity o → AllByRecursion Stands qs → x ≡ m.built o (vals_in qs) → Whole o (trees_of (terms_in qs)) x
    unfolding Whole
    whole_of o qs x h n st e =
        let s = standing qs st in
        let l = list_of-trees_of (terms_in qs) in
        (h, ap length l ∙ length-map qs (λ e. e.0) ∙ n, subst (AllByRecursion P) (sym l) s.0, e ∙ ap (m.built o) (sym s.1) ∙ ap (λ z. m.built o (map of z)) (sym l))

    whole_at : (o p : Op) (us ws : Trees) (x y : A) → one_row (node o us) x ≡ one_row (node p ws) y → Whole p ws y → Whole o us x
    whole_at o p us ws x y e w =
        let a = parts_of_pair (node o us, x) (node p ws, y) e in
        let b = node_is o p us ws a.0 in
        let W1 : Op → Type 0 = λ q. Whole q us x in
        let W2 : Trees → Type 0 = λ z. Whole p z x in
        subst W1 (sym b.0) (subst W2 (sym b.1) (subst (Whole p ws) (sym a.1) w))

    made_whole : (i : ℕ) (o : Op) (us : Trees) (x : A) → slice_get es i ≡ Some (node o us, x) → (at : ℕ) (p : Op) (ns : List ℕ) → Did did at (make p ns) → Tied did i at → Whole o us x
    made_whole i o us x h at p ns d t =
        let w = told.built at p ns d in
        let v = m.built p (vals_in (picked es ns)) in
        whole_at o p us (trees_of (terms_in (picked es ns))) x v (sym h ∙ tied i at t ∙ w.2) (whole_of p (picked es ns) v w.0 w.1 (picked_stand ns) refl)

    kept_values : (qs : List (Tree × A)) → AllByRecursion Stands qs → AllByRecursion (λ x. IsTrue (m.is_value x)) (vals_in qs)
    unfolding Stands
    kept_values [] h = tt
    kept_values (q ∷ qs) h = (covers.are_values h.0.0 q h.0.1, kept_values qs h.1)

    all_values : (xs : List A) → AllByRecursion (λ x. IsTrue (m.is_value x)) xs → AreValues m xs
    all_values xs h = All-from_recursion (λ x. IsTrue (m.is_value x)) xs h

    undone_whole : (i : ℕ) (o : Op) (us : Trees) (x : A) → slice_get es i ≡ Some (node o us, x) → (at : ℕ) (p : Op) (ks : List ℕ) (n : ℕ) → Did did at (undo p ks n) → Tied did i n → Whole o us x
    unfolding Stands
    undone_whole i o us x h at p ks n d t =
        let u = told.undone at p ks n d in
        let ps = u.0 in
        let v = u.1 in
        let K = picked es ks in
        let st = each_in_both Stands K ps (picked_stand ks) (rows_stand ps (λ j l. (at + j, u.2.6 j l))) in
        let b = lawful.undoes p (vals_in K) (vals_in ps) v u.2.1 u.2.0 (length-map K (λ e. e.1) ∙ u.2.2) (all_values (vals_in K) (kept_values K (picked_stand ks))) (covers.are_values n (node p (trees_of (terms_in (K ++ ps))), v) u.2.4) u.2.5 in
        whole_at o p us (trees_of (terms_in (K ++ ps))) x v (sym h ∙ tied i n t ∙ u.2.4)
        (whole_of p (K ++ ps) v u.2.0 u.2.3 st (sym b.0 ∙ ap (m.built p) (sym (map-append (λ e. e.1) K ps))))

    other_whole : (i : ℕ) (o : Op) (us : Trees) (x : A) → slice_get es i ≡ Some (node o us, x) → undoable o ≡ true → AllByRecursion P (take (keys o) (list_of us)) → Whole o us x
    unfolding P
    other_whole i o us x h u ks = ⊎_elim (λ a. made_whole i o us x h a.0 o a.1 a.2 a.3) (λ a. undone_whole i o us x h a.0 a.1 a.2 a.3 a.4 a.5) ((rules i (got_within (terms_in es) i (node o us) (term_at es i (node o us, x) h))).others o us (term_at es i (node o us, x) h) u (each_by (ComposesBy m.has (terms_in es)) (Composes (terms_in es)) (by_any m.has (terms_in es)) (take (keys o) (list_of us)) ks))

    row_whole : (b : Bool) (i : ℕ) (o : Op) (us : Trees) (x : A) → undoable o ≡ b → slice_get es i ≡ Some (node o us, x) → AllByRecursion P (list_of us) → Whole o us x
    unfolding P
    row_whole true i o us x is h all = other_whole i o us x h is (all_take (ComposesBy m.has (terms_in es)) (keys o) (list_of us) all)
    row_whole false i o us x is h all = let a = (rules i (got_within (terms_in es) i (node o us) (term_at es i (node o us, x) h))).hashes o us (term_at es i (node o us, x) h) is (each_by (ComposesBy m.has (terms_in es)) (Composes (terms_in es)) (by_any m.has (terms_in es)) (list_of us) all) in made_whole i o us x h a.0 a.1 a.2 a.4 a.5

    to_list : (ts : Trees) → ComposeAllBy m.has (terms_in es) ts → AllByRecursion P (list_of ts)
    unfolding P
    to_list none h = tt
    to_list (more t ts) h = (h.0, to_list ts h.1)

    to_trees : (ts : List Tree) → AllByRecursion P ts → ComposeAllBy m.has (terms_in es) (trees_of ts)
    unfolding P
    to_trees [] h = tt
    to_trees (t ∷ ts) h = (h.0, to_trees ts h.1)

    all_chosen : (ts : Trees) → chosen_all m (m.built Hash []) es ts ≡ map of (list_of ts)
    unfolding of
    all_chosen none = refl
    all_chosen (more t ts) = ap (λ l. chosen m (m.built Hash []) es t ∷ l) (all_chosen ts)

    missing : (o : Op) (us : Trees) → found es (node o us) ≡ None → of (node o us) ≡ m.built o (map of (list_of us))
    unfolding of
    missing o us e = rw e (ap (m.built o) (all_chosen us))

    -- an operator on terms that compose
    built_case : (o : Op) (us : Trees) → IsTrue (m.has o) → length (list_of us) ≡ arity o → AllByRecursion P (list_of us) → Finds es (node o us) → Whole o us (of (node o us))
    unfolding Finds Whole
    built_case o us h n all (inl w) = subst (Whole o us) (sym (of_row w.0 (node o us) w.1 w.3)) (row_whole (undoable o) w.0 o us w.1 refl w.3 all)
    built_case o us h n all (inr e) = (h, n, all, missing o us e)

    is_built : (o : Op) (us : Trees) → IsTrue (m.has o) → length (list_of us) ≡ arity o → AllByRecursion P (list_of us) → Whole o us (of (node o us))
    is_built o us h n all = built_case o us h n all (finds es (node o us))

    -- a term that composes, with keys that compose
    is_open : (o : Op) (us : Trees) → undoable o ≡ true → P (node o us) → AllByRecursion P (take (keys o) (list_of us)) → Whole o us (of (node o us))
    unfolding P
    is_open o us u (inl here) ks =
        let r = row_of es (node o us) here in
        subst (Whole o us) (sym (of_row r.0 (node o us) r.1 r.2)) (other_whole r.0 o us r.1 r.2 u ks)
    is_open o us u (inr all) ks = is_built o us all.0 all.1 (to_list us all.2)

    row_value : (t : Tree) → Among (terms_in es) t → IsTrue (m.is_value (of t))
    row_value t here = let r = row_of es t here in subst (λ x. IsTrue (m.is_value x)) (sym (of_row r.0 t r.1 r.2)) (covers.are_values r.0 (t, r.1) r.2)

    mutual
      unfolding Whole

      value_of : (t : Tree) → ComposesBy m.has (terms_in es) t → IsTrue (m.is_value (of t))
      value_of (leaf n) h = row_value (leaf n) h
      value_of (node o us) (inl here) = row_value (node o us) here
      value_of (node o us) (inr all) =
          let w = is_built o us all.0 all.1 (to_list us all.2) in
          subst (λ x. IsTrue (m.is_value x)) (sym w.3) (lawful.builds o (map of (list_of us)) all.0 (length-map (list_of us) of ∙ all.1) (all_values (map of (list_of us)) (values_of us all.2)))

      values_of : (ts : Trees) → ComposeAllBy m.has (terms_in es) ts → AllByRecursion (λ x. IsTrue (m.is_value x)) (map of (list_of ts))
      values_of none h = tt
      values_of (more t ts) h = (value_of t h.0, values_of ts h.1)

    list_values : (ts : List Tree) → AllByRecursion P ts → AllByRecursion (λ x. IsTrue (m.is_value x)) (map of ts)
    unfolding P
    list_values [] h = tt
    list_values (t ∷ ts) h = (value_of t h.0, list_values ts h.1)

    keys_fit : (o : Op) → keys o ≤ arity o
    keys_fit Hash = omega arith
    keys_fit Mac = omega arith
    keys_fit Seal = omega arith
    keys_fit Wrap = omega arith
    keys_fit (Format i a) = omega arith

    -- what is whole can be undone
    undoes : (o : Op) (us : Trees) (x : A) → undoable o ≡ true → Whole o us x
        → AllByRecursion P (drop (keys o) (list_of us)) × (m.undone o (map of (take (keys o) (list_of us))) x ≡ Some (map of (drop (keys o) (list_of us))))
    unfolding Whole
    undoes o us x u w =
        let xs = list_of us in
        let ks = map of (take (keys o) xs) in
        let ps = map of (drop (keys o) xs) in
        let split : map of xs ≡ ks ++ ps = ap (map of) (sym (take-append-drop (keys o) xs)) ∙ map-append of (take (keys o) xs) (drop (keys o) xs) in
        let count : length ks ≡ keys o = length-map (take (keys o) xs) of ∙ length-take-le (keys o) xs (omega (arith, keys_fit o, w.1)) in
        let long : length (ks ++ ps) ≡ arity o = sym (ap length split) ∙ length-map xs of ∙ w.1 in (
          all_drop P (keys o) xs w.2,
          ap (m.undone o ks) (w.3 ∙ ap (m.built o) split)
              ∙ lawful.undone_of o ks ps u w.0 count long (all_values ks (list_values (take (keys o) xs) (all_take P (keys o) xs w.2))) (all_values ps (list_values (drop (keys o) xs) (all_drop P (keys o) xs w.2))),
        )

    p_node : (o : Op) (ts : List Tree) → IsTrue (m.has o) → length ts ≡ arity o → AllByRecursion P ts → P (node o (trees_of ts))
    unfolding P
    p_node o ts h n all = inr (h, ap length (list_of-trees_of ts) ∙ n, to_trees ts all)

    -- a term that composes, and its value
    Is : Tree → A → Type 0
    Is t b = P t × (b ≡ of t)

    of_pairs : (ts : List Tree) (bs : List A) → Pairs Is ts bs → AllByRecursion P ts × (bs ≡ map of ts)
    unfolding Is
    of_pairs [] [] h = (tt, refl)
    of_pairs [] (b ∷ bs) h = absurd h
    of_pairs (t ∷ ts) [] h = absurd h
    of_pairs (t ∷ ts) (b ∷ bs) h = let r = of_pairs ts bs h.1 in let e : b ≡ of t = h.0.1 in ((h.0.0, r.0), ap (λ x. x ∷ bs) e ∙ ap (λ l. of t ∷ l) r.1)

    to_pairs : (ts : List Tree) → AllByRecursion P ts → Pairs Is ts (map of ts)
    unfolding Is
    to_pairs [] h = tt
    to_pairs (t ∷ ts) h = ((h.0, refl), to_pairs ts h.1)

    builds_is : (o : Op) (ts : List Tree) (bs : List A) → m.has o ≡ true → length ts ≡ arity o → Pairs Is ts bs → Is (node o (trees_of ts)) (m.built o bs)
    unfolding Is Whole
    builds_is o ts bs h n pairs =
        let all = of_pairs ts bs pairs in
        let same = list_of-trees_of ts in
        let w = is_built o (trees_of ts) h (ap length same ∙ n) (subst (AllByRecursion P) (sym same) all.0) in
        (p_node o ts h n all.0, ap (m.built o) all.1 ∙ sym (w.3 ∙ ap (λ l. m.built o (map of l)) same))

    opens_is : (o : Op) (ks ps : List Tree) (t : Tree) (kv : List A) (v : A) → m.has o ≡ true → length ks ≡ keys o → Pairs Is ks kv → Is t v → parts_of o ks t ≡ Some ps
        → (qs : List A) × (m.undone o kv v ≡ Some qs) × Pairs Is ps qs
    unfolding Is
    opens_is o ks ps t kv v h n pk r e =
        let p = parts_are o ks t ps e in
        let us = trees_of (ks ++ ps) in
        let same : list_of us ≡ ks ++ ps = list_of-trees_of (ks ++ ps) in
        let front : take (keys o) (list_of us) ≡ ks = ap (take (keys o)) same ∙ ap (λ l. take l (ks ++ ps)) (sym n) ∙ take-append_seam ks ps in
        let back : drop (keys o) (list_of us) ≡ ps = ap (drop (keys o)) same ∙ ap (λ l. drop l (ks ++ ps)) (sym n) ∙ drop-append_seam ks ps in
        let keyed = of_pairs ks kv pk in
        let here : P (node o us) = subst P p.1 r.0 in
        let d = undoes o us (of (node o us)) p.0 (is_open o us p.0 here (subst (AllByRecursion P) (sym front) keyed.0)) in
        let value : v ≡ of (node o us) = r.1 ∙ ap of p.1 in (
          map of ps,
          ap (λ l. m.undone o l v) keyed.1 ∙ ap (λ l. m.undone o (map of l) v) (sym front) ∙ ap (m.undone o (map of (take (keys o) (list_of us)))) value
              ∙ d.1 ∙ ap (λ l. Some (map of l)) back,
          to_pairs ps (subst (AllByRecursion P) back d.0),
        )

    facts : Facts m frame vs Is
    unfolding Is
    facts = record {
      labels = λ n t e. let l = covers.labels n t e in (l.1, l.3, (p_among t (among_row es l.0 (t, l.1) l.2), sym (of_row l.0 t l.1 l.2)));
      builds = builds_is;
      opens = opens_is;
    }

    agrees : Agree m frame vs
    unfolding Is
    agrees = agree_by m frame vs Is facts (λ t b c x y. x.1 ∙ sym y.1) covers.long

pub tied_agree : {A : Type 0} (m : Meaning A) → Lawful m → TiedAgree m
tied_agree m lawful did frame vs es told covers rules = agrees m lawful did es told rules frame vs covers
