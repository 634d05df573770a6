-- A label for a new atom, with any value, changes nothing of whether labels agree.
use Rattle.std.proofs.Common.{◌≡◌, ℕ, zero, suc, List, [], ◌∷◌, ◌++◌, length, Bool, true, IsTrue, Some, refl, sym, ap, ◌∙◌, subst, inl, inr, ◌⊎◌, arith, length-append}
use Rattle.std.specs.Prelude.{slice_get, option_and_then, ◌==◌}
use Rattle.std.proofs.lemmas.Bool.{eq-eqb}
use Rattle.std.proofs.lemmas.List.Elements.{All-from_recursion, recursion_from_All}
use Rattle.anb_term.specs.declared.term.Op.{Op}
use Rattle.anb_term.specs.Operator.{arity, keys, undoable}
use Rattle.anb_term.specs.Tree.{Tree, leaf, node, Trees, none, more, trees_of, list_of, Avoids, AvoidsAll, AvoidsEach}
use Rattle.anb_term.specs.TreeSame.{list_of-trees_of, trees_of-list_of}
use Rattle.anb_term.specs.Lawful.{Lawful}
use Rattle.anb_term.specs.Value.{Meaning, RecipeTree, label, build, part, RecipeTrees, no_recipes, more_recipes, value, values, build_if, part_if}
use Rattle.anb_term.specs.FreeAlgebra.{parts_of, terms_over}
use Rattle.anb_term.specs.FreeLawful.{parts_are}
use Rattle.anb_term.specs.Agree.{Agree}
use Rattle.anb_term.specs.Statements.{NewAtomAgrees}
use Rattle.anb_term.proofs.Steps.{bound, consed, guarded, part_is}
use Rattle.anb_term.proofs.Values.{Valued, undone_parts, value_is}
use Rattle.anb_term.proofs.Frames.{value_more, one_more}
use Rattle.anb_term.proofs.Demands.{undone_too}
use Rattle.anb_term.proofs.Related.{Pairs, pairs_length, Facts, agree_by}

-- terms that recipes give hold no atom but those of the labels
module _ (a : ℕ) where
  each_all : (ts : List Tree) → AvoidsEach a ts → AvoidsAll a (trees_of ts)
  each_all [] h = tt
  each_all (t ∷ ts) h = (h.0, each_all ts h.1)

  all_each : (ts : List Tree) → AvoidsAll a (trees_of ts) → AvoidsEach a ts
  all_each [] h = tt
  all_each (t ∷ ts) h = (h.0, all_each ts h.1)

  each_at : (ts : List Tree) (j : ℕ) (t : Tree) → AvoidsEach a ts → slice_get ts j ≡ Some t → Avoids a t
  each_at [] j t h e = cc
  each_at (u ∷ ts) zero t h e = let s : u ≡ t = cc in subst (Avoids a) s h.0
  each_at (u ∷ ts) (suc j) t h e = each_at ts j t h.1 e

  each_first : (xs ys : List Tree) → AvoidsEach a (xs ++ ys) → AvoidsEach a xs
  each_first [] ys h = tt
  each_first (x ∷ xs) ys h = (h.0, each_first xs ys h.1)

  each_last : (xs ys : List Tree) → AvoidsEach a (xs ++ ys) → AvoidsEach a ys
  each_last [] ys h = h
  each_last (x ∷ xs) ys h = each_last xs ys h.1

  module _ (has : Op → Bool) (frame : List Tree) (avoids : AvoidsEach a frame) where
    mutual
      pub avoided : (r : RecipeTree) (t : Tree) → value (terms_over has) frame r ≡ Some t → Avoids a t
      avoided (label n) t e = each_at frame n t avoids e
      avoided (build o rs) t e =
          let b = bound (build_if (terms_over has) o) (values (terms_over has) frame rs) t e in
          let g = guarded (has o) (length b.0 == arity o) (Some (node o (trees_of b.0))) t b.2 in
          let same : node o (trees_of b.0) ≡ t = cc in
          subst (Avoids a) same (each_all b.0 (all_avoided rs b.0 b.1))
      avoided (part o j ks r) t e =
          let x = bound (λ kv. option_and_then (part_if (terms_over has) o j kv) (value (terms_over has) frame r)) (values (terms_over has) frame ks) t e in
          let y = bound (part_if (terms_over has) o j x.0) (value (terms_over has) frame r) t x.2 in
          let g = guarded (has o) (length x.0 == keys o) (option_and_then (λ ps. slice_get ps j) (parts_of o x.0 y.0)) t y.2 in
          let ps = bound (λ ps. slice_get ps j) (parts_of o x.0 y.0) t g.2 in
          let is = parts_are o x.0 y.0 ps.0 ps.1 in
          each_at ps.0 j t (each_last x.0 ps.0 (all_each (x.0 ++ ps.0) (subst (Avoids a) is.1 (avoided r y.0 y.1)))) ps.2

      pub all_avoided : (rs : RecipeTrees) (ts : List Tree) → values (terms_over has) frame rs ≡ Some ts → AvoidsEach a ts
      all_avoided no_recipes ts e = let s : [] ≡ ts = cc in subst (AvoidsEach a) s tt
      all_avoided (more_recipes r rs) ts e =
          let c = consed (value (terms_over has) frame r) (values (terms_over has) frame rs) ts e in
          subst (AvoidsEach a) (sym c.4) (avoided r c.0 c.2, all_avoided rs c.1 c.3)

get_last : {A B : Type 0} (xs : List B) (vs : List A) (n : ℕ) (x y : B) (v : A) → length vs ≡ length xs → slice_get (xs ++ x ∷ []) n ≡ Some y
    → (slice_get xs n ≡ Some y) ⊎ ((x ≡ y) × (slice_get (vs ++ v ∷ []) n ≡ Some v))
get_last [] [] zero x y v l e = let s : x ≡ y = cc in inr (s, refl)
get_last [] [] (suc n) x y v l e = cc
get_last [] (w ∷ vs) n x y v l e = absurd (omega arith)
get_last (z ∷ xs) [] n x y v l e = absurd (omega arith)
get_last (z ∷ xs) (w ∷ vs) zero x y v l e = inl e
get_last (z ∷ xs) (w ∷ vs) (suc n) x y v l e = get_last xs vs n x y v (omega arith) e

module _ {A : Type 0} (m : Meaning A) (lawful : Lawful m) (frame : List Tree) (vs : List A) (a : ℕ) (x : A) (long : length vs ≡ length frame) (vv : Valued m vs) (vx : IsTrue (m.is_value x))
    (avoids : AvoidsEach a frame) (agree : Agree m frame vs) where
  -- a recipe over the labels before has the term and the value
  Known : Tree → A → Type 0
  Known t b = (r : RecipeTree) × (value (terms_over m.has) frame r ≡ Some t) × (value m vs r ≡ Some b)

  -- the value of a term, by a recipe over the labels before, or by its form
  mutual
    Has : Tree → A → Type 0
    Has (leaf n) b = Known (leaf n) b ⊎ ((n ≡ a) × (b ≡ x))
    Has (node o ts) b = Known (node o ts) b ⊎ ((bs : List A) × (m.has o ≡ true) × (length (list_of ts) ≡ arity o) × HaveAll ts bs × (b ≡ m.built o bs))

    HaveAll : Trees → List A → Type 0
    HaveAll none [] = Unit {0}
    HaveAll none (b ∷ bs) = ⊥
    HaveAll (more t ts) [] = ⊥
    HaveAll (more t ts) (b ∷ bs) = Has t b × HaveAll ts bs

  to_all : (ts : List Tree) (bs : List A) → Pairs Has ts bs → HaveAll (trees_of ts) bs
  unfolding Has HaveAll
  to_all [] [] h = tt
  to_all [] (b ∷ bs) h = absurd h
  to_all (t ∷ ts) [] h = absurd h
  to_all (t ∷ ts) (b ∷ bs) h = (h.0, to_all ts bs h.1)

  all_length : (ts : Trees) (bs : List A) → HaveAll ts bs → length bs ≡ length (list_of ts)
  unfolding Has HaveAll
  all_length none [] h = refl
  all_length none (b ∷ bs) h = absurd h
  all_length (more t ts) [] h = absurd h
  all_length (more t ts) (b ∷ bs) h = ap suc (all_length ts bs h.1)

  known_avoids : (t : Tree) (b : A) → Known t b → Avoids a t
  unfolding Known
  known_avoids t b k = avoided a m.has frame avoids k.0 t k.1

  -- what the new atom doesn't occur in has a recipe without it
  mutual
    unfolding Has HaveAll Known

    without : (t : Tree) (b : A) → Avoids a t → Has t b → Known t b
    without (leaf n) b av (inl k) = k
    without (leaf n) b av (inr h) = absurd (av h.0)
    without (node o ts) b av (inl k) = k
    without (node o ts) b av (inr h) =
        let rs = all_without ts h.0 av h.3 in (
          build o rs.0,
          rw (rs.1, h.1, eq-eqb (length (list_of ts)) (arity o) h.2, trees_of-list_of ts),
          rw (rs.2, h.1, eq-eqb (length h.0) (arity o) (all_length ts h.0 h.3 ∙ h.2)) (ap Some (sym h.4)),
        )

    all_without : (ts : Trees) (bs : List A) → AvoidsAll a ts → HaveAll ts bs → (rs : RecipeTrees) × (values (terms_over m.has) frame rs ≡ Some (list_of ts)) × (values m vs rs ≡ Some bs)
    all_without none [] av h = (no_recipes, refl, refl)
    all_without none (b ∷ bs) av h = absurd h
    all_without (more t ts) [] av h = absurd h
    all_without (more t ts) (b ∷ bs) av h =
        let r = without t b av.0 h.0 in
        let rs = all_without ts bs av.1 h.1 in
        (more_recipes r.0 rs.0, rw (r.1, rs.1), rw (r.2, rs.2))

  known_one : (t : Tree) (b c : A) → Known t b → Known t c → b ≡ c
  unfolding Known
  known_one t b c k l = let h = agree.one k.0 l.0 t k.1 l.1 in let h1 = h.1 in let h2 = h.2 in let k2 = k.2 in let l2 = l.2 in cc

  mutual
    unfolding Has HaveAll

    one : (t : Tree) (b c : A) → Has t b → Has t c → b ≡ c
    one (leaf n) b c (inl k) h = known_one (leaf n) b c k (without (leaf n) c (known_avoids (leaf n) b k) h)
    one (leaf n) b c (inr h) (inl k) = absurd (known_avoids (leaf n) c k h.0)
    one (leaf n) b c (inr h) (inr g) = h.1 ∙ sym g.1
    one (node o ts) b c (inl k) h = known_one (node o ts) b c k (without (node o ts) c (known_avoids (node o ts) b k) h)
    one (node o ts) b c (inr h) (inl k) = known_one (node o ts) b c (without (node o ts) b (known_avoids (node o ts) c k) (inr h)) k
    one (node o ts) b c (inr h) (inr g) = h.4 ∙ ap (m.built o) (all_one ts h.0 g.0 h.3 g.3) ∙ sym g.4

    all_one : (ts : Trees) (bs cs : List A) → HaveAll ts bs → HaveAll ts cs → bs ≡ cs
    all_one none [] [] h g = refl
    all_one none (b ∷ bs) cs h g = absurd h
    all_one none [] (c ∷ cs) h g = absurd g
    all_one (more t ts) [] cs h g = absurd h
    all_one (more t ts) (b ∷ bs) [] h g = absurd g
    all_one (more t ts) (b ∷ bs) (c ∷ cs) h g = cc (one t b c h.0 g.0, all_one ts bs cs h.1 g.1)

  mutual
    unfolding Has HaveAll Known

    has_value : (t : Tree) (b : A) → Has t b → IsTrue (m.is_value b)
    has_value (leaf n) b (inl k) = value_is m lawful vs vv k.0 b k.2
    has_value (leaf n) b (inr h) = subst (λ y. IsTrue (m.is_value y)) (sym h.1) vx
    has_value (node o ts) b (inl k) = value_is m lawful vs vv k.0 b k.2
    has_value (node o ts) b (inr h) =
        subst (λ y. IsTrue (m.is_value y)) (sym h.4) (lawful.builds o h.0 h.1 (all_length ts h.0 h.3 ∙ h.2) (All-from_recursion (λ y. IsTrue (m.is_value y)) h.0 (have_values ts h.0 h.3)))

    have_values : (ts : Trees) (bs : List A) → HaveAll ts bs → Valued m bs
    have_values none [] h = tt
    have_values none (b ∷ bs) h = absurd h
    have_values (more t ts) [] h = absurd h
    have_values (more t ts) (b ∷ bs) h = (has_value t b h.0, have_values ts bs h.1)

  from_all : (ts : List Tree) (bs : List A) → HaveAll (trees_of ts) bs → Pairs Has ts bs
  unfolding Has HaveAll
  from_all [] [] h = tt
  from_all [] (b ∷ bs) h = absurd h
  from_all (t ∷ ts) [] h = absurd h
  from_all (t ∷ ts) (b ∷ bs) h = (h.0, from_all ts bs h.1)

  split : (xs ys : List Tree) (bs : List A) → HaveAll (trees_of (xs ++ ys)) bs → (cs : List A) × (ds : List A) × (bs ≡ cs ++ ds) × Pairs Has xs cs × Pairs Has ys ds
  unfolding Has HaveAll
  split [] ys bs h = ([], bs, refl, tt, from_all ys bs h)
  split (x ∷ xs) ys [] h = absurd h
  split (x ∷ xs) ys (b ∷ bs) h = let s = split xs ys bs h.1 in (b ∷ s.0, s.1, ap (λ l. b ∷ l) s.2, (h.0, s.3), s.4)

  known_has : (t : Tree) (b : A) → Known t b → Has t b
  unfolding Has HaveAll
  known_has (leaf n) b k = inl k
  known_has (node o ts) b k = inl k

  labels : (n : ℕ) (t : Tree) → slice_get (frame ++ leaf a ∷ []) n ≡ Some t → (b : A) × (slice_get (vs ++ x ∷ []) n ≡ Some b) × Has t b
  unfolding Has HaveAll Known
  labels n t e = by_cases (get_last frame vs n (leaf a) t x long e) where
    by_cases : (slice_get frame n ≡ Some t) ⊎ ((leaf a ≡ t) × (slice_get (vs ++ x ∷ []) n ≡ Some x)) → (b : A) × (slice_get (vs ++ x ∷ []) n ≡ Some b) × Has t b
    by_cases (inl k) = let h = agree.one (label n) (label n) t k k in (h.0, value_more m vs (x ∷ []) (label n) h.0 h.1, known_has t h.0 (label n, k, h.1))
    by_cases (inr k) = let P : Tree → Type 0 = λ u. Has u x in (x, k.1, subst P k.0 (inr (refl, refl)))

  -- the parts of what is known are known
  known_parts : (ps : List Tree) (qs : List A) → length qs ≡ length ps → ((j : ℕ) (p : Tree) → slice_get ps j ≡ Some p → (b : A) × (slice_get qs j ≡ Some b) × Known p b) → Pairs Has ps qs
  known_parts [] [] l f = tt
  known_parts [] (q ∷ qs) l f = absurd (omega arith)
  known_parts (p ∷ ps) [] l f = absurd (omega arith)
  known_parts (p ∷ ps) (q ∷ qs) l f =
      let h = f 0 p refl in
      let s : h.0 ≡ q = let e = h.1 in cc in
      (known_has p q (subst (Known p) s h.2), known_parts ps qs (omega arith) (λ j r e. f (suc j) r e))

  -- a part of what is known, by its recipe
  known_part : (o : Op) (ks : RecipeTrees) (r : RecipeTree) (kts ps : List Tree) (t : Tree) (kv qs : List A) (v : A) → m.has o ≡ true → length kts ≡ keys o → values (terms_over m.has) frame ks ≡ Some kts
      → value (terms_over m.has) frame r ≡ Some t → parts_of o kts t ≡ Some ps → values m vs ks ≡ Some kv → value m vs r ≡ Some v → length kv ≡ keys o → m.undone o kv v ≡ Some qs
      → (j : ℕ) (p : Tree) → slice_get ps j ≡ Some p → (b : A) × (slice_get qs j ≡ Some b) × Known p b
  unfolding Known
  known_part o ks r kts ps t kv qs v h n ek er ep vk vr nk u j p at =
      let first : value (terms_over m.has) frame (part o j ks r) ≡ Some p = rw (ek, er) (part_is (terms_over m.has) o j kts ps t p h n ep at) in
      let g = agree.one (part o j ks r) (part o j ks r) p first first in
      let here : option_and_then (λ (w : List A). option_and_then (part_if m o j w) (value m vs r)) (values m vs ks) ≡ slice_get qs j = rw (vk, vr, h, eq-eqb (length kv) (keys o) nk, u) refl in
      (g.0, sym here ∙ g.1, (part o j ks r, first, g.1))

  known_opens : (o : Op) (ks ps : List Tree) (t : Tree) (kv : List A) (v : A) → m.has o ≡ true → length ks ≡ keys o → Pairs Has ks kv → Known t v → parts_of o ks t ≡ Some ps
      → (qs : List A) × (m.undone o kv v ≡ Some qs) × Pairs Has ps qs
  unfolding Known
  known_opens o ks ps t kv v h n hk k e =
      let is = parts_are o ks t ps e in
      let av = all_each a (ks ++ ps) (subst (Avoids a) is.1 (known_avoids t v k)) in
      let rs = all_without (trees_of ks) kv (each_all a ks (each_first a ks ps av)) (to_all ks kv hk) in
      let ek : values (terms_over m.has) frame rs.0 ≡ Some ks = rs.1 ∙ ap Some (list_of-trees_of ks) in
      let w = undone_too m lawful frame vs agree vv o rs.0 k.0 ks t ek k.1 h n ps e in
      let same_keys : w.0 ≡ kv = let a1 = w.3 in let a2 = rs.2 in cc in
      let same : w.1 ≡ v = let a1 = w.4 in let a2 = k.2 in cc in
      let undone : m.undone o kv v ≡ Some w.2 = ap (λ l. m.undone o l v) (sym same_keys) ∙ ap (m.undone o w.0) (sym same) ∙ w.6 in
      let long_keys : length kv ≡ keys o = ap length (sym same_keys) ∙ w.5 in
      let u = undone_parts m lawful o kv w.2 v h long_keys (have_values (trees_of ks) kv (to_all ks kv hk)) (value_is m lawful vs vv k.0 v k.2) undone in
      let count : length w.2 ≡ length ps = counted kv w.2 ks ps (u.2 ∙ sym is.2) (long_keys ∙ sym n) in
      (w.2, undone, known_parts ps w.2 count (known_part o rs.0 k.0 ks ps t kv w.2 v h n ek k.1 e rs.2 k.2 long_keys undone)) where
        counted : (xs ys : List A) (us ws : List Tree) → length (xs ++ ys) ≡ length (us ++ ws) → length xs ≡ length us → length ys ≡ length ws
        counted xs ys us ws e f = omega (arith, length-append xs ys, length-append us ws)

  built_opens : (o : Op) (ks ps : List Tree) (kv bs : List A) (v : A) → m.has o ≡ true → IsTrue (undoable o) → length ks ≡ keys o → length (ks ++ ps) ≡ arity o → Pairs Has ks kv
      → HaveAll (trees_of (ks ++ ps)) bs → v ≡ m.built o bs → (qs : List A) × (m.undone o kv v ≡ Some qs) × Pairs Has ps qs
  built_opens o ks ps kv bs v h u n long hk all is =
      let s = split ks ps bs all in
      let same : s.0 ≡ kv = all_one (trees_of ks) s.0 kv (to_all ks s.0 s.3) (to_all ks kv hk) in
      let whole : bs ≡ kv ++ s.1 = s.2 ∙ ap (λ l. l ++ s.1) same in
      let count : length (kv ++ s.1) ≡ arity o = sym (ap length whole) ∙ all_length (trees_of (ks ++ ps)) bs all ∙ ap length (list_of-trees_of (ks ++ ps)) ∙ long in
      let law = lawful.undone_of o kv s.1 u h (pairs_length Has ks kv hk ∙ n) count
      (All-from_recursion (λ x. IsTrue (m.is_value x)) kv (have_values (trees_of ks) kv (to_all ks kv hk)))
      (All-from_recursion (λ x. IsTrue (m.is_value x)) s.1 (have_values (trees_of ps) s.1 (to_all ps s.1 s.4))) in
      (s.1, ap (m.undone o kv) (is ∙ ap (m.built o) whole) ∙ law, s.4)

  opens : (o : Op) (ks ps : List Tree) (t : Tree) (kv : List A) (v : A) → m.has o ≡ true → length ks ≡ keys o → Pairs Has ks kv → Has t v → parts_of o ks t ≡ Some ps
      → (qs : List A) × (m.undone o kv v ≡ Some qs) × Pairs Has ps qs
  unfolding Has HaveAll
  opens o ks ps t kv v h n hk hv e =
      let is = parts_are o ks t ps e in
      let P : Tree → Type 0 = λ u. Has u v in
      by_cases is (subst P is.1 hv) where
        by_cases : (IsTrue (undoable o)) × (t ≡ node o (trees_of (ks ++ ps))) × (length (ks ++ ps) ≡ arity o)
            → Known (node o (trees_of (ks ++ ps))) v ⊎ ((bs : List A) × (m.has o ≡ true) × (length (list_of (trees_of (ks ++ ps))) ≡ arity o) × HaveAll (trees_of (ks ++ ps)) bs × (v ≡ m.built o bs))
            → (qs : List A) × (m.undone o kv v ≡ Some qs) × Pairs Has ps qs
        by_cases is (inl k) = known_opens o ks ps t kv v h n hk (let P : Tree → Type 0 = λ u. Known u v in subst P (sym is.1) k) e
        by_cases is (inr b) = built_opens o ks ps kv b.0 v h is.0 n is.2 hk b.3 b.4

  facts : Facts m (frame ++ leaf a ∷ []) (vs ++ x ∷ []) Has
  unfolding Has HaveAll
  facts = record {
    labels = labels;
    builds = λ o ts bs h n p. inr (bs, h, ap length (list_of-trees_of ts) ∙ n, to_all ts bs p, refl);
    opens = opens;
  }

  pub grown : Agree m (frame ++ leaf a ∷ []) (vs ++ x ∷ [])
  grown = agree_by m (frame ++ leaf a ∷ []) (vs ++ x ∷ []) Has facts one (one_more vs frame x (leaf a) agree.long)

pub new_atom_agrees : {A : Type 0} (m : Meaning A) → Lawful m → NewAtomAgrees m
new_atom_agrees m lawful frame vs a x valued vx avoids agree = grown m lawful frame vs a x agree.long (recursion_from_All (λ y. IsTrue (m.is_value y)) vs valued) vx avoids agree
