-- Chosen compositions: what they are, and that they stay.
use Rattle.std.proofs.Common.{◌≡◌, ℕ, zero, suc, ◌+◌, ◌<◌, ◌≤◌, List, [], ◌∷◌, ◌++◌, length, Bool, true, false, cond, Option, Some, None, refl, sym, ap, ◌∙◌, subst, inl, inr, ◌⊎◌, ⊎_elim, arith, option_map, append_assoc, length-append, map, IsTrue}
use Rattle.std.specs.Prelude.{slice_get, ◌==◌, unwrap_or}
use Rattle.std.proofs.lemmas.Bool.{eqb-true, eq-eqb}
use Rattle.std.proofs.lemmas.List.{length-map, append-nil}
use Rattle.anb_lemmas.proofs.Options.{mapped_from}
use Rattle.anb_lemmas.proofs.Lists.{got_within}
use Rattle.anb_term.specs.declared.term.Op.{Op}
use Rattle.anb_term.specs.Tree.{Tree, leaf, node, Trees, none, more, list_of, tree_size, trees_size, IsFormed, AreFormed}
use Rattle.anb_term.specs.TreeSame.{tree_same, tree_itself}
use Rattle.anb_term.specs.Value.{Meaning, RecipeTree, label, build, value, values, cons_both}
use Rattle.anb_term.specs.Operator.{arity}
use Rattle.anb_term.specs.Composes.{Among, Composes, ComposeAll}
use Rattle.anb_close.specs.Rows.{is_at, place, both_more, or_built, made_for, mades_for, row_unless, rows_from, rows_of, seen, made_recipe, mades_recipes}
use Rattle.anb_term.proofs.Lists.{slice_get-append, slice_get-last, size_some}
use Rattle.anb_close.specs.Entries.{EachSmall}

pub optional : {A : Type 0} (o : Option A) → ((x : A) × (o ≡ Some x)) ⊎ (o ≡ None)
optional None = inr refl
optional (Some x) = inl (x, refl)

pub both_some : (a : Option Tree) (b : Option Trees) (ms : Trees) → both_more a b ≡ Some ms → (x : Tree) × (xs : Trees) × (a ≡ Some x) × (b ≡ Some xs) × (more x xs ≡ ms)
both_some None b ms e = cc
both_some (Some x) None ms e = cc
both_some (Some x) (Some xs) ms e = (x, xs, refl, refl, cc)

pub both_are : (a : Option Tree) (b : Option Trees) (x : Tree) (xs : Trees) → a ≡ Some x → b ≡ Some xs → both_more a b ≡ Some (more x xs)
both_are a b x xs e f = rw (e, f)

pub built_some : (o : Op) (b : Bool) (ms : Option Trees) (m : Tree) → or_built None o b ms ≡ Some m → (b ≡ true) × (ks : Trees) × (ms ≡ Some ks) × (node o ks ≡ m)
built_some o false ms m e = cc
built_some o true ms m e = let h = mapped_from (node o) ms m e in (refl, h.0, h.1, h.2)

pub built_is : (o : Op) (p : Option ℕ) (b : Bool) (a : Option Trees) (ms : Trees) → p ≡ None → b ≡ true → a ≡ Some ms → or_built p o b a ≡ Some (node o ms)
built_is o p b a ms e f g = rw (e, f, g)

pub is_at_same : (r : Option Tree) (t : Tree) → is_at r t ≡ true → r ≡ Some t
is_at_same None t e = cc
is_at_same (Some u) t e = ap Some (tree_same u t e)

at_itself : (t : Tree) → is_at (Some t) t ≡ true
at_itself t = tree_itself t

-- where a term stands
at_step : (b : Bool) (r : Option Tree) (rs : List (Option Tree)) (t : Tree) (i : ℕ) → is_at r t ≡ b → ((j : ℕ) → place rs t ≡ Some j → slice_get rs j ≡ Some (Some t))
    → cond b (Some 0) (option_map suc (place rs t)) ≡ Some i → slice_get (r ∷ rs) i ≡ Some (Some t)
at_step true r rs t i is before e = let z : 0 ≡ i = cc in subst (λ n. slice_get (r ∷ rs) n ≡ Some (Some t)) z (ap Some (is_at_same r t is))
at_step false r rs t i is before e = let h = mapped_from suc (place rs t) i e in subst (λ n. slice_get (r ∷ rs) n ≡ Some (Some t)) h.2 (before h.0 h.1)

pub place_at : (rs : List (Option Tree)) (t : Tree) (i : ℕ) → place rs t ≡ Some i → slice_get rs i ≡ Some (Some t)
place_at [] t i e = cc
place_at (r ∷ rs) t i e = at_step (is_at r t) r rs t i refl (place_at rs t) e

stands_step : (b : Bool) (r : Option Tree) (rs : List (Option Tree)) (t : Tree) → is_at r t ≡ b → ((j : ℕ) × (place rs t ≡ Some j)) → (j : ℕ) × (place (r ∷ rs) t ≡ Some j)
stands_step true r rs t is h = (0, rw is)
stands_step false r rs t is h = (suc h.0, rw is (ap (option_map suc) h.1))

pub stands : (rs : List (Option Tree)) (t : Tree) (i : ℕ) → slice_get rs i ≡ Some (Some t) → (j : ℕ) × (place rs t ≡ Some j)
stands [] t i e = cc
stands (r ∷ rs) t zero e = let s : r ≡ Some t = cc in (0, rw s (rw (at_itself t)))
stands (r ∷ rs) t (suc i) e = stands_step (is_at r t) r rs t refl (stands rs t i e)

among_row : (rs : List (Option Tree)) (t : Tree) (i : ℕ) → slice_get rs i ≡ Some (Some t) → Among (seen rs) t
among_row [] t i e = cc
among_row (None ∷ rs) t zero e = cc
among_row (None ∷ rs) t (suc i) e = among_row rs t i e
among_row (Some u ∷ rs) t zero e = inl (let s : u ≡ t = cc in s)
among_row (Some u ∷ rs) t (suc i) e = inr (among_row rs t i e)

pub row_among : (rs : List (Option Tree)) (t : Tree) → Among (seen rs) t → (i : ℕ) × (slice_get rs i ≡ Some (Some t))
row_among [] t a = absurd a
row_among (None ∷ rs) t a = let h = row_among rs t a in (suc h.0, h.1)
row_among (Some u ∷ rs) t (inl e) = (0, ap (λ x. Some (Some x)) e)
row_among (Some u ∷ rs) t (inr a) = let h = row_among rs t a in (suc h.0, h.1)

pub place_among : (rs : List (Option Tree)) (t : Tree) (i : ℕ) → place rs t ≡ Some i → Among (seen rs) t
place_among rs t i e = among_row rs t i (place_at rs t i e)

pub among_place : (rs : List (Option Tree)) (t : Tree) → Among (seen rs) t → (i : ℕ) × (place rs t ≡ Some i)
among_place rs t a = let h = row_among rs t a in stands rs t h.0 h.1

-- a term has a chosen composition exactly where it composes
module _ (rs : List (Option Tree)) where
  mutual
    pub made_composes : (t m : Tree) → made_for rs t ≡ Some m → Composes (seen rs) t
    made_composes (leaf n) m e = let h = mapped_from leaf (place rs (leaf n)) m e in place_among rs (leaf n) h.0 h.1
    made_composes (node o ts) m e =
        ⊎_elim (λ (i, p). inl (place_among rs (node o ts) i p))
        (λ p. let h = built_some o (length (list_of ts) == arity o) (mades_for rs ts) m (rw p at e) in inr (eqb-true _ _ h.0, mades_compose ts h.1 h.2))
        (optional (place rs (node o ts)))

    pub mades_compose : (ts ms : Trees) → mades_for rs ts ≡ Some ms → ComposeAll (seen rs) ts
    mades_compose none ms e = tt
    mades_compose (more t ts) ms e = let h = both_some (made_for rs t) (mades_for rs ts) ms e in (made_composes t h.0 h.2, mades_compose ts h.1 h.3)

  mutual
    pub composes_made : (t : Tree) → Composes (seen rs) t → (m : Tree) × (made_for rs t ≡ Some m)
    composes_made (leaf n) c = let h = among_place rs (leaf n) c in (leaf h.0, ap (option_map leaf) h.1)
    composes_made (node o ts) (inl a) = let h = among_place rs (node o ts) a in (leaf h.0, ap (λ p. or_built p o (length (list_of ts) == arity o) (mades_for rs ts)) h.1)
    composes_made (node o ts) (inr c) =
        let h = compose_mades ts c.1 in
        ⊎_elim (λ (i, p). (leaf i, ap (λ q. or_built q o (length (list_of ts) == arity o) (mades_for rs ts)) p))
        (λ p. (node o h.0, built_is o (place rs (node o ts)) (length (list_of ts) == arity o) (mades_for rs ts) h.0 p (eq-eqb (length (list_of ts)) (arity o) c.0) h.1))
        (optional (place rs (node o ts)))

    pub compose_mades : (ts : Trees) → ComposeAll (seen rs) ts → (ms : Trees) × (mades_for rs ts ≡ Some ms)
    compose_mades none c = (none, refl)
    compose_mades (more t ts) c = let h = composes_made t c.0 in let hs = compose_mades ts c.1 in (more h.0 hs.0, both_are (made_for rs t) (mades_for rs ts) h.0 hs.0 h.1 hs.1)

-- a further row that did not compose changes no composition
append_step : (b : Bool) (r : Option Tree) (p : Option ℕ) (q : Option ℕ) (i : ℕ) → (((j : ℕ) → p ≡ Some j → q ≡ Some j)) → cond b (Some 0) (option_map suc p) ≡ Some i → cond b (Some 0) (option_map suc q) ≡ Some i
append_step true r p q i h e = e
append_step false r p q i h e = let m = mapped_from suc p i e in ap (option_map suc) (h m.0 m.1) ∙ ap Some m.2

pub place_more : (rs : List (Option Tree)) (r : Option Tree) (t : Tree) (i : ℕ) → place rs t ≡ Some i → place (rs ++ r ∷ []) t ≡ Some i
place_more [] r t i e = cc
place_more (x ∷ rs) r t i e = append_step (is_at x t) x (place rs t) (place (rs ++ r ∷ []) t) i (place_more rs r t) e

pub none_step : (b : Bool) (p : Option ℕ) → cond b (Some 0) (option_map suc p) ≡ None → (b ≡ false) × (p ≡ None)
none_step true p e = cc
none_step false None e = (refl, refl)
none_step false (Some i) e = cc

place_none : (rs : List (Option Tree)) (r : Option Tree) (t : Tree) → is_at r t ≡ false → place rs t ≡ None → place (rs ++ r ∷ []) t ≡ None
place_none [] r t f e = rw f
place_none (x ∷ rs) r t f e = let h = none_step (is_at x t) (place rs t) e in rw (h.0, place_none rs r t f h.1)

pub place_last : (rs : List (Option Tree)) (t : Tree) → place rs t ≡ None → place (rs ++ Some t ∷ []) t ≡ Some (length rs)
place_last [] t e = rw (at_itself t)
place_last (x ∷ rs) t e = let h = none_step (is_at x t) (place rs t) e in rw (h.0, place_last rs t h.1)

not_at : (b : Bool) (rs : List (Option Tree)) (r : Option Tree) (t m : Tree) → is_at r t ≡ b → ((u : Tree) → r ≡ Some u → made_for rs u ≡ None) → made_for rs t ≡ Some m → is_at r t ≡ false
not_at true rs r t m is new e = let n = new t (is_at_same r t is) in cc
not_at false rs r t m is new e = is

module _ (rs : List (Option Tree)) (r : Option Tree) (new : (u : Tree) → r ≡ Some u → made_for rs u ≡ None) where
  mutual
    pub made_stays : (t m : Tree) → made_for rs t ≡ Some m → made_for (rs ++ r ∷ []) t ≡ Some m
    made_stays (leaf n) m e = let h = mapped_from leaf (place rs (leaf n)) m e in ap (option_map leaf) (place_more rs r (leaf n) h.0 h.1) ∙ ap Some h.2
    made_stays (node o ts) m e =
        ⊎_elim (λ (i, p). ap (λ q. or_built q o (length (list_of ts) == arity o) (mades_for (rs ++ r ∷ []) ts)) (place_more rs r (node o ts) i p) ∙ rw p at e)
        (λ p.
        let h = built_some o (length (list_of ts) == arity o) (mades_for rs ts) m (rw p at e) in
        let q = place_none rs r (node o ts) (not_at (is_at r (node o ts)) rs r (node o ts) m refl new e) p in
        rw (q, h.0, mades_stay ts h.1 h.2) (ap Some h.3))
        (optional (place rs (node o ts)))

    pub mades_stay : (ts ms : Trees) → mades_for rs ts ≡ Some ms → mades_for (rs ++ r ∷ []) ts ≡ Some ms
    mades_stay none ms e = e
    mades_stay (more t ts) ms e = let h = both_some (made_for rs t) (mades_for rs ts) ms e in both_are _ _ h.0 h.1 (made_stays t h.0 h.2) (mades_stay ts h.1 h.3) ∙ ap Some h.4

unless_new : (o : Option Tree) (t u : Tree) → row_unless o t ≡ Some u → (o ≡ None) × (t ≡ u)
unless_new None t u e = (refl, cc)
unless_new (Some m) t u e = cc

new_row : (rs : List (Option Tree)) (t u : Tree) → row_unless (made_for rs t) t ≡ Some u → made_for rs u ≡ None
new_row rs t u e = let h = unless_new (made_for rs t) t u e in subst (λ x. made_for rs x ≡ None) h.1 h.0

pub made_later : (rs : List (Option Tree)) (us : List Tree) (t m : Tree) → made_for rs t ≡ Some m → made_for (rows_from rs us) t ≡ Some m
made_later rs [] t m e = e
made_later rs (u ∷ us) t m e = made_later (rs ++ row_unless (made_for rs u) u ∷ []) us t m (made_stays rs _ (new_row rs u) t m e)

pub mades_later : (rs : List (Option Tree)) (us : List Tree) (ts ms : Trees) → mades_for rs ts ≡ Some ms → mades_for (rows_from rs us) ts ≡ Some ms
mades_later rs [] ts ms e = e
mades_later rs (u ∷ us) ts ms e = mades_later (rs ++ row_unless (made_for rs u) u ∷ []) us ts ms (mades_stay rs _ (new_row rs u) ts ms e)

pub rows_more : (rs : List (Option Tree)) (ts us : List Tree) → rows_from rs (ts ++ us) ≡ rows_from (rows_from rs ts) us
rows_more rs [] us = refl
rows_more rs (t ∷ ts) us = rows_more (rs ++ row_unless (made_for rs t) t ∷ []) ts us

pub length_rows : (rs : List (Option Tree)) (ts : List Tree) → length (rows_from rs ts) ≡ length rs + length ts
length_rows rs [] = omega arith
length_rows rs (t ∷ ts) = omega (arith, length_rows (rs ++ row_unless (made_for rs t) t ∷ []) ts, length-append rs (row_unless (made_for rs t) t ∷ []))

pub row_later : (rs : List (Option Tree)) (us : List Tree) (i : ℕ) (r : Option Tree) → slice_get rs i ≡ Some r → slice_get (rows_from rs us) i ≡ Some r
row_later rs [] i r e = e
row_later rs (u ∷ us) i r e = row_later (rs ++ row_unless (made_for rs u) u ∷ []) us i r (slice_get-append rs _ i r e)

-- each entry's term composes, once the entry is there
pub made_leaf : (rs : List (Option Tree)) (t : Tree) (i : ℕ) → place rs t ≡ Some i → made_for rs t ≡ Some (leaf i)
made_leaf rs (leaf n) i e = ap (option_map leaf) e
made_leaf rs (node o ts) i e = ap (λ q. or_built q o (length (list_of ts) == arity o) (mades_for rs ts)) e

unplaced_step : (rs : List (Option Tree)) (t : Tree) → made_for rs t ≡ None → ((i : ℕ) × (place rs t ≡ Some i)) ⊎ (place rs t ≡ None) → place rs t ≡ None
unplaced_step rs t e (inl h) = let s = made_leaf rs t h.0 h.1 in cc
unplaced_step rs t e (inr h) = h

-- what does not compose stands nowhere
pub unplaced : (rs : List (Option Tree)) (t : Tree) → made_for rs t ≡ None → place rs t ≡ None
unplaced rs t e = unplaced_step rs t e (optional (place rs t))

last_row : (o : Option Tree) (rs : List (Option Tree)) (t : Tree) → made_for rs t ≡ o → (m : Tree) × (made_for (rs ++ row_unless o t ∷ []) t ≡ Some m)
last_row (Some m) rs t e = (m, made_stays rs None (λ u d. cc) t m e)
last_row None rs t e = (leaf (length rs), made_leaf (rs ++ Some t ∷ []) t (length rs) (place_last rs t (unplaced rs t e)))

pub entry_made : (rs : List (Option Tree)) (ts : List Tree) (i : ℕ) (t : Tree) → slice_get ts i ≡ Some t → (m : Tree) × (made_for (rows_from rs ts) t ≡ Some m)
entry_made rs [] i t e = cc
entry_made rs (u ∷ ts) zero t e =
    let s : u ≡ t = cc in
    let h = last_row (made_for rs u) rs u refl in
    (h.0, subst (λ x. made_for (rows_from (rs ++ row_unless (made_for rs u) u ∷ []) ts) x ≡ Some h.0) s (made_later _ ts u h.0 h.1))
entry_made rs (u ∷ ts) (suc i) t e = entry_made (rs ++ row_unless (made_for rs u) u ∷ []) ts i t e

-- a row is the entry's own term
row_is_own : (o : Option Tree) (t u : Tree) → row_unless o t ≡ Some u → t ≡ u
row_is_own o t u e = (unless_new o t u e).1

last_term : (rs : List (Option Tree)) (us : List Tree) (r : Option Tree) (x : Tree) → ((u : Tree) → r ≡ Some u → x ≡ u) → ((i : ℕ) (t : Tree) → slice_get rs i ≡ Some (Some t) → slice_get us i ≡ Some t) → length rs ≡ length us
    → (i : ℕ) (t : Tree) → slice_get (rs ++ r ∷ []) i ≡ Some (Some t) → slice_get (us ++ x ∷ []) i ≡ Some t
last_term [] [] r x own h n zero t e = let s : r ≡ Some t = cc in ap Some (own t s)
last_term [] [] r x own h n (suc i) t e = cc
last_term [] (u ∷ us) r x own h n i t e = absurd (omega arith)
last_term (y ∷ rs) [] r x own h n i t e = absurd (omega arith)
last_term (y ∷ rs) (u ∷ us) r x own h n zero t e = h zero t e
last_term (y ∷ rs) (u ∷ us) r x own h n (suc i) t e = last_term rs us r x own (λ j. h (suc j)) (omega arith) i t e

row_term_from : (rs : List (Option Tree)) (us ts : List Tree) → ((i : ℕ) (t : Tree) → slice_get rs i ≡ Some (Some t) → slice_get us i ≡ Some t) → length rs ≡ length us
    → (i : ℕ) (t : Tree) → slice_get (rows_from rs ts) i ≡ Some (Some t) → slice_get (us ++ ts) i ≡ Some t
row_term_from rs us [] h n i t e = rw append-nil (h i t e)
row_term_from rs us (x ∷ ts) h n i t e =
    let r = row_unless (made_for rs x) x in
    rw (← append_assoc us (x ∷ []) ts) (row_term_from (rs ++ r ∷ []) (us ++ x ∷ []) ts (last_term rs us r x (row_is_own (made_for rs x) x) h n) (omega (arith, length-append rs (r ∷ []), length-append us (x ∷ []))) i t e)

pub row_term : (ts : List Tree) (i : ℕ) (t : Tree) → slice_get (rows_of ts) i ≡ Some (Some t) → slice_get ts i ≡ Some t
row_term ts i t e = row_term_from [] [] ts (λ j u d. cc) refl i t e

-- what a chosen composition is worth, where entries and operators are worth what `of` says
module _ {A : Type 0} (m : Meaning A) (vs : List A) (rs : List (Option Tree)) (rcs : List RecipeTree) (of : Tree → A)
    (at : (t : Tree) (i : ℕ) → place rs t ≡ Some i → value m vs (made_recipe rcs (leaf i)) ≡ Some (of t))
    (builds : (o : Op) (ts : Trees) → place rs (node o ts) ≡ None → of (node o ts) ≡ m.built o (map of (list_of ts))) where
  joined : (a : Option A) (b : Option (List A)) (x : A) (xs : List A) → a ≡ Some x → b ≡ Some xs → cons_both a b ≡ Some (x ∷ xs)
  joined a b x xs e f = rw (e, f)

  whole : (o : Op) (ts ms : Trees) → IsTrue (m.has o) → (length (list_of ts) == arity o) ≡ true → place rs (node o ts) ≡ None → values m vs (mades_recipes rcs ms) ≡ Some (map of (list_of ts))
      → value m vs (build o (mades_recipes rcs ms)) ≡ Some (of (node o ts))
  whole o ts ms h n p e = rw (e, length-map (list_of ts) of, h, n) (ap Some (sym (builds o ts p)))

  mutual
    pub made_worth : (t mk : Tree) → IsFormed m.has t → made_for rs t ≡ Some mk → value m vs (made_recipe rcs mk) ≡ Some (of t)
    made_worth (leaf n) mk f e = let h = mapped_from leaf (place rs (leaf n)) mk e in subst (λ x. value m vs (made_recipe rcs x) ≡ Some (of (leaf n))) h.2 (at (leaf n) h.0 h.1)
    made_worth (node o ts) mk f e =
        ⊎_elim (λ (i, p). let s : leaf i ≡ mk = (let q = rw p at e in cc) in subst (λ x. value m vs (made_recipe rcs x) ≡ Some (of (node o ts))) s (at (node o ts) i p))
        (λ p.
        let h = built_some o (length (list_of ts) == arity o) (mades_for rs ts) mk (rw p at e) in
        subst (λ x. value m vs (made_recipe rcs x) ≡ Some (of (node o ts))) h.3 (whole o ts h.1 f.0 h.0 p (mades_worth ts h.1 f.2 h.2)))
        (optional (place rs (node o ts)))

    pub mades_worth : (ts ms : Trees) → AreFormed m.has ts → mades_for rs ts ≡ Some ms → values m vs (mades_recipes rcs ms) ≡ Some (map of (list_of ts))
    mades_worth none ms f e = let s : none ≡ ms = cc in subst (λ x. values m vs (mades_recipes rcs x) ≡ Some []) s refl
    mades_worth (more t ts) ms f e =
        let h = both_some (made_for rs t) (mades_for rs ts) ms e in
        subst (λ x. values m vs (mades_recipes rcs x) ≡ Some (of t ∷ map of (list_of ts))) h.4 (joined _ _ (of t) (map of (list_of ts)) (made_worth t h.0 f.0 h.2) (mades_worth ts h.1 f.1 h.3))

module _ (rs : List (Option Tree)) where
  mutual
    pub made_small : (t m : Tree) → made_for rs t ≡ Some m → tree_size m ≤ tree_size t
    made_small (leaf n) m e = let h = mapped_from leaf (place rs (leaf n)) m e in subst (λ x. tree_size x ≤ 1) h.2 (omega arith)
    made_small (node o ts) m e =
        ⊎_elim (λ (i, p). let s : leaf i ≡ m = (let q = rw p at e in cc) in subst (λ x. tree_size x ≤ tree_size (node o ts)) s (size_some (node o ts)))
        (λ p. let h = built_some o (length (list_of ts) == arity o) (mades_for rs ts) m (rw p at e) in subst (λ x. tree_size x ≤ tree_size (node o ts)) h.3 (omega (arith, mades_small ts h.1 h.2)))
        (optional (place rs (node o ts)))

    pub mades_small : (ts ms : Trees) → mades_for rs ts ≡ Some ms → trees_size ms ≤ trees_size ts
    mades_small none ms e = let s : none ≡ ms = cc in subst (λ x. trees_size x ≤ 0) s (omega arith)
    mades_small (more t ts) ms e = let h = both_some (made_for rs t) (mades_for rs ts) ms e in subst (λ x. trees_size x ≤ trees_size (more t ts)) h.4 (omega (arith, made_small t h.0 h.2, mades_small ts h.1 h.3))

-- each chosen composition is small
pub mades_each : (rs : List (Option Tree)) (ts ms : Trees) → mades_for rs ts ≡ Some ms → EachSmall (list_of ms) (list_of ts)
mades_each rs none ms e = let s : none ≡ ms = cc in subst (λ x. EachSmall (list_of x) []) s tt
mades_each rs (more t ts) ms e =
    let h = both_some (made_for rs t) (mades_for rs ts) ms e in
    subst (λ x. EachSmall (list_of x) (list_of (more t ts))) h.4 (made_small rs t h.0 h.2, mades_each rs ts h.1 h.3)

-- a composition names places alone, so its recipe needs the first recipes alone
module _ (rs : List (Option Tree)) (rcs later : List RecipeTree) (long : length rcs ≡ length rs) where
  leaf_more : (t : Tree) (i : ℕ) → place rs t ≡ Some i → made_recipe (rcs ++ later) (leaf i) ≡ made_recipe rcs (leaf i)
  leaf_more t i p = front_at rcs later i (omega (arith, got_within rs i (Some t) (place_at rs t i p)))
    where
      front_at : (xs ys : List RecipeTree) (i : ℕ) → i < length xs → unwrap_or (slice_get (xs ++ ys) i) (label 0) ≡ unwrap_or (slice_get xs i) (label 0)
      front_at [] ys i h = absurd (omega arith)
      front_at (x ∷ xs) ys zero h = refl
      front_at (x ∷ xs) ys (suc i) h = front_at xs ys i (omega arith)

  mutual
    pub made_recipe_more : (t m : Tree) → made_for rs t ≡ Some m → made_recipe (rcs ++ later) m ≡ made_recipe rcs m
    made_recipe_more (leaf n) m e = let h = mapped_from leaf (place rs (leaf n)) m e in subst (λ x. made_recipe (rcs ++ later) x ≡ made_recipe rcs x) h.2 (leaf_more (leaf n) h.0 h.1)
    made_recipe_more (node o ts) m e =
        ⊎_elim (λ (i, p). let s : leaf i ≡ m = (let q = rw p at e in cc) in subst (λ x. made_recipe (rcs ++ later) x ≡ made_recipe rcs x) s (leaf_more (node o ts) i p))
        (λ p.
        let h = built_some o (length (list_of ts) == arity o) (mades_for rs ts) m (rw p at e) in
        subst (λ x. made_recipe (rcs ++ later) x ≡ made_recipe rcs x) h.3 (ap (build o) (mades_recipes_more ts h.1 h.2)))
        (optional (place rs (node o ts)))

    pub mades_recipes_more : (ts ms : Trees) → mades_for rs ts ≡ Some ms → mades_recipes (rcs ++ later) ms ≡ mades_recipes rcs ms
    mades_recipes_more none ms e = let s : none ≡ ms = cc in subst (λ x. mades_recipes (rcs ++ later) x ≡ mades_recipes rcs x) s refl
    mades_recipes_more (more t ts) ms e =
        let h = both_some (made_for rs t) (mades_for rs ts) ms e in
        subst (λ x. mades_recipes (rcs ++ later) x ≡ mades_recipes rcs x) h.4 (cc (made_recipe_more t h.0 h.2, mades_recipes_more ts h.1 h.3))

pub mades_length : (rs : List (Option Tree)) (ts ms : Trees) → mades_for rs ts ≡ Some ms → length (list_of ms) ≡ length (list_of ts)
mades_length rs none ms e = let s : none ≡ ms = cc in subst (λ x. length (list_of x) ≡ 0) s refl
mades_length rs (more t ts) ms e = let h = both_some (made_for rs t) (mades_for rs ts) ms e in subst (λ x. length (list_of x) ≡ length (list_of (more t ts))) h.4 (ap suc (mades_length rs ts h.1 h.3))

-- a row's term stands first at that row
place_own_from : (rs : List (Option Tree)) (ts : List Tree) → ((k : ℕ) (t : Tree) → slice_get rs k ≡ Some (Some t) → place rs t ≡ Some k) → (k : ℕ) (t : Tree) → slice_get (rows_from rs ts) k ≡ Some (Some t) → place (rows_from rs ts) t ≡ Some k
place_own_from rs [] own k t e = own k t e
place_own_from rs (u ∷ ts) own k t e =
    let r = row_unless (made_for rs u) u in
    place_own_from (rs ++ r ∷ []) ts (λ j x at. ⊎_elim
    (λ old. place_more rs r x j (own j x old))
    (λ (n, is).
    let new = new_row rs u x is in
    let none = unplaced rs x new in
    ap (λ y. place (rs ++ y ∷ []) x) is ∙ place_last rs x none ∙ ap Some (sym n))
    (slice_get-last rs r (Some x) j at)) k t e

pub place_own : (ts : List Tree) (k : ℕ) (t : Tree) → slice_get (rows_of ts) k ≡ Some (Some t) → place (rows_of ts) t ≡ Some k
place_own ts k t e = place_own_from [] ts (λ j x at. cc) k t e

-- a row's operands did not all compose when it came
pub row_not_none : (rs : List (Option Tree)) (ts : List Tree) → ((k : ℕ) (o : Op) → slice_get rs k ≡ Some (Some (node o none)) → arity o ≡ 0 → ⊥) → (k : ℕ) (o : Op) → slice_get (rows_from rs ts) k ≡ Some (Some (node o none)) → arity o ≡ 0 → ⊥
row_not_none rs [] h k o e z = h k o e z
row_not_none rs (u ∷ ts) h k o e z =
    row_not_none (rs ++ row_unless (made_for rs u) u ∷ []) ts (λ j p at y. ⊎_elim (λ old. h j p old y) (λ (n, is). empty rs p (new_row rs u (node p none) is) y) (slice_get-last rs (row_unless (made_for rs u) u) (Some (node p none)) j at)) k o e z
  where
    empty : (rs : List (Option Tree)) (p : Op) → made_for rs (node p none) ≡ None → arity p ≡ 0 → ⊥
    empty rs p e y = ⊎_elim (λ (i, q). let s = made_leaf rs (node p none) i q in cc) (λ q. let s = built_is p (place rs (node p none)) (0 == arity p) (Some none) none q (eq-eqb 0 (arity p) (sym y)) refl in cc) (optional (place rs (node p none)))
