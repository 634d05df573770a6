-- Looking a term up, and composing it.
use Rattle.std.proofs.Common.{◌≡◌, ℕ, suc, ◌+◌, ◌<◌, ◌≤◌, List, [], ◌∷◌, ◌++◌, length, map, take, drop, get_or, Bool, true, false, Option, Some, None, refl, sym, ap, ◌∙◌, arith, option_map}
use Rattle.std.specs.Prelude.{slice_get, ◌==◌}
use Rattle.std.proofs.lemmas.List.{drop_more, drop_all, length-map}
use Rattle.std.proofs.lemmas.Option.{slice_get-get_or}
use Rattle.std.proofs.lemmas.Bool.{eq-eqb, eqb-true}
use Rattle.anb_term.specs.declared.term.Op.{Op}
use Rattle.anb_term.specs.declared.term.Term.{Term}
use Rattle.anb_term.specs.declared.term.Term.TheVariants.{Node}
use Rattle.anb_term.specs.Tree.{Tree, node, Trees, none, more, trees_of, list_of, tree_eqb}
use Rattle.anb_term.specs.TreeSame.{tree_itself, list_of-trees_of}
use Rattle.anb_term.specs.View.{tree_of}
use Rattle.anb_term.specs.Operator.{arity}
use Rattle.anb_close.specs.Rows.{is_at, place, both_more, or_built, made_for, mades_for, rows_from, rows_of, row_unless}
use Rattle.anb_close.proofs.Rows.{length_rows, row_term, rows_more}
use Rattle.anb_close.specs.declared.entry.Entry.{Entry}
use Rattle.anb_close.specs.Entries.{rows, terms_of, is_double}
use Rattle.anb_close.specs.Joined.{after}
use Rattle.anb_term.proofs.Lists.{map-append, slice_get-at, slice_get-map, one_term, split_at, tree_differs}

pub rows_length : (es : List Entry) → length (rows es) ≡ length es
rows_length es = omega (arith, length_rows [] (terms_of es), length-map es (λ e. tree_of e.term))

own_row : (r : Option Tree) (es : List Entry) (i : ℕ) (x : Entry) → slice_get (rows es) i ≡ Some r → slice_get (terms_of es) i ≡ Some (tree_of x.term) → is_double r ≡ false → r ≡ Some (tree_of x.term)
own_row None es i x at t d = cc
own_row (Some u) es i x at t d = let s = row_term (terms_of es) i u at in cc

-- the row at a place
pub row_here : (es : List Entry) (ds : List Bool) (i : ℕ) (b : Bool) → ds ≡ map is_double (rows es) → i < length es
    → (r : Option Tree) × (slice_get (rows es) i ≡ Some r) × (drop i (rows es) ≡ r ∷ drop (i + 1) (rows es)) × (get_or ds i b ≡ is_double r)
    × ((x : Entry) → x ≡ get_or es i x → is_double r ≡ false → r ≡ Some (tree_of x.term))
row_here es ds i b is h =
    let rs = rows es in
    let n : i < length rs = omega (arith, rows_length es) in
    let r = get_or rs i None in
    let at : slice_get rs i ≡ Some r = slice_get-get_or rs i None n in
    let m : slice_get ds i ≡ Some (is_double r) = rw is (slice_get-map is_double rs i r at) in
    let long : i < length ds = omega (arith, ap length is, length-map rs is_double) in
    let g : slice_get ds i ≡ Some (get_or ds i b) = slice_get-get_or ds i b long in
    (r, at, drop_more rs i None n, cc, λ x e d. own_row r es i x at (slice_get-map (λ y. tree_of y.term) es i x (slice_get-at es i x h e)) d)

-- the search goes on
step_on : (p : Option ℕ) (i : ℕ) → option_map (λ n. i + n) (option_map suc p) ≡ option_map (λ n. i + 1 + n) p
step_on None i = refl
step_on (Some n) i = ap Some (omega arith)

pub find_on : (rs : List (Option Tree)) (r : Option Tree) (t : Tree) (i : ℕ) (p : Option ℕ) → drop i rs ≡ r ∷ drop (i + 1) rs → is_at r t ≡ false
    → p ≡ option_map (λ n. i + n) (place (drop i rs) t) → p ≡ option_map (λ n. i + 1 + n) (place (drop (i + 1) rs) t)
find_on rs r t i p d f e =
    let s : place (drop i rs) t ≡ option_map suc (place (drop (i + 1) rs) t) = ap (λ l. place l t) d ∙ rw f in
    e ∙ ap (option_map (λ n. i + n)) s ∙ step_on (place (drop (i + 1) rs) t) i

pub find_here : (rs : List (Option Tree)) (t : Tree) (i : ℕ) (p : Option ℕ) → drop i rs ≡ Some t ∷ drop (i + 1) rs
    → p ≡ option_map (λ n. i + n) (place (drop i rs) t) → Some i ≡ p
find_here rs t i p d e =
    let s : place (drop i rs) t ≡ Some 0 = ap (λ l. place l t) d ∙ rw (tree_itself t) in
    sym (e ∙ ap (option_map (λ n. i + n)) s ∙ ap Some (omega arith))

pub not_double : (r : Option Tree) (t : Tree) → is_double r ≡ true → is_at r t ≡ false
not_double None t e = refl
not_double (Some u) t e = cc

-- a composition that was built
pub built_none : (rs : List (Option Tree)) (o : Op) (ts : List Tree) → None ≡ place rs (node o (trees_of ts)) → (length ts ≡ arity o → ⊥) → None ≡ made_for rs (node o (trees_of ts))
built_none rs o ts p n =
    sym (no_build (place rs (node o (trees_of ts))) o (length (list_of (trees_of ts)) == arity o) (mades_for rs (trees_of ts)) (sym p) (unequal _ (length (list_of (trees_of ts))) (arity o) refl (λ e. n (sym (ap length (list_of-trees_of ts)) ∙ e))))
  where
    no_build : (p : Option ℕ) (o : Op) (b : Bool) (ms : Option Trees) → p ≡ None → b ≡ false → or_built p o b ms ≡ None
    no_build p o b ms e f = rw (e, f)

    unequal : (b : Bool) (m n : ℕ) → (m == n) ≡ b → (m ≡ n → ⊥) → (m == n) ≡ false
    unequal true m n e h = absurd (h (eqb-true m n e))
    unequal false m n e h = e

pub built_from : (rs : List (Option Tree)) (o : Op) (ts : List Tree) (p : Option ℕ) (ms : Option Trees) → p ≡ place rs (node o (trees_of ts)) → p ≡ None → length ts ≡ arity o → ms ≡ mades_for rs (trees_of ts)
    → option_map (node o) ms ≡ made_for rs (node o (trees_of ts))
built_from rs o ts p ms e n l is = let long = eq-eqb (length (list_of (trees_of ts))) (arity o) (ap length (list_of-trees_of ts) ∙ l) in rw (← e, n, long, ← is)

-- compositions one by one
after-last : (ms : List Tree) (m : Tree) (us : Trees) → after ms (more m us) ≡ after (ms ++ m ∷ []) us
after-last [] m us = refl
after-last (x ∷ ms) m us = ap (more x) (after-last ms m us)

after-none : (ms : List Tree) → after ms none ≡ trees_of ms
after-none [] = refl
after-none (x ∷ ms) = ap (more x) (after-none ms)

after_more : (ms : List Tree) (m : Tree) (o : Option Trees) → option_map (after ms) (both_more (Some m) o) ≡ option_map (after (ms ++ m ∷ [])) o
after_more ms m None = refl
after_more ms m (Some us) = ap Some (after-last ms m us)

pub mades_on : (rs : List (Option Tree)) (xs : List Term) (i : ℕ) (x : Term) (ms : List Tree) (m : Tree) (all : Option Trees) → i < length xs → x ≡ get_or xs i x → Some m ≡ made_for rs (tree_of x)
    → all ≡ option_map (after ms) (mades_for rs (trees_of (map tree_of (drop i xs)))) → all ≡ option_map (after (ms ++ m ∷ [])) (mades_for rs (trees_of (map tree_of (drop (i + 1) xs))))
mades_on rs xs i x ms m all h is e before =
    before ∙ ap (λ l. option_map (after ms) (mades_for rs (trees_of l))) (split_at xs i x h is)
    ∙ ap (λ o. option_map (after ms) (both_more o (mades_for rs (trees_of (map tree_of (drop (i + 1) xs)))))) (sym e)
    ∙ after_more ms m (mades_for rs (trees_of (map tree_of (drop (i + 1) xs))))

pub mades_all : (rs : List (Option Tree)) (xs : List Term) (i : ℕ) (ms : List Tree) (all : Option Trees) → length xs ≤ i
    → all ≡ option_map (after ms) (mades_for rs (trees_of (map tree_of (drop i xs)))) → Some (trees_of ms) ≡ all
mades_all rs xs i ms all h before =
    sym (before ∙ ap (λ l. option_map (after ms) (mades_for rs (trees_of (map tree_of l)))) (drop_all i xs h) ∙ ap Some (after-none ms))

module _ (es : List Entry) (ds : List Bool) (i : ℕ) (b : Bool) (t : Term) (p : Option ℕ) (is : ds ≡ map is_double (rows es)) (h : i < length es) (at : b ≡ get_or ds i b)
    (so_far : p ≡ option_map (λ n. i + n) (place (drop i (rows es)) (tree_of t))) where
  pub pass_double : b ≡ true → p ≡ option_map (λ n. i + 1 + n) (place (drop (i + 1) (rows es)) (tree_of t))
  pass_double e = let r = row_here es ds i b is h in find_on (rows es) r.0 (tree_of t) i p r.2 (not_double r.0 (tree_of t) (sym r.3 ∙ sym at ∙ e)) so_far

  pub stop_here : (x : Entry) → b ≡ false → x ≡ get_or es i x → x.term ≡ t → Some i ≡ p
  stop_here x e own same =
      let r = row_here es ds i b is h in
      find_here (rows es) (tree_of t) i p (r.2 ∙ ap (λ y. y ∷ drop (i + 1) (rows es)) (r.4 x own (sym r.3 ∙ sym at ∙ e) ∙ ap (λ u. Some (tree_of u)) same)) so_far

  pub pass_other : (x : Entry) → b ≡ false → x ≡ get_or es i x → (x.term ≡ t → ⊥) → p ≡ option_map (λ n. i + 1 + n) (place (drop (i + 1) (rows es)) (tree_of t))
  pass_other x e own other =
      let r = row_here es ds i b is h in
      let differ = tree_differs (tree_eqb (tree_of x.term) (tree_of t)) (tree_of x.term) (tree_of t) refl (λ s. other (one_term x.term t s)) in
      find_on (rows es) r.0 (tree_of t) i p r.2 (rw (r.4 x own (sym r.3 ∙ sym at ∙ e)) differ) so_far

pub place_none : (t : Term) (o : Op) (ts : List Tree) (rs : List (Option Tree)) → t ≡ Node o ts → None ≡ place rs (tree_of t) → None ≡ place rs (node o (trees_of ts))
place_none t o ts rs is e = e ∙ ap (λ u. place rs (tree_of u)) is

pub rows_append : (es fs : List Entry) → rows (es ++ fs) ≡ rows_from (rows es) (terms_of fs)
rows_append es fs = ap (λ ts. rows_of ts) (map-append (λ (e : Entry). tree_of e.term) es fs) ∙ rows_more [] (terms_of es) (terms_of fs)

pub rows_last : (es : List Entry) (e : Entry) → rows (es ++ e ∷ []) ≡ rows es ++ row_unless (made_for (rows es) (tree_of e.term)) (tree_of e.term) ∷ []
rows_last es e = rows_append es (e ∷ [])

-- whether the last entry is a double
pub doubles_last : (es es' : List Entry) (ds ds' : List Bool) (b : Bool) (e : Entry) → ds ≡ map is_double (rows es) → b ≡ is_double (row_unless (made_for (rows es) (tree_of e.term)) (tree_of e.term))
    → ds' ≡ ds ++ b ∷ [] → es' ≡ es ++ e ∷ [] → ds' ≡ map is_double (rows es')
doubles_last es es' ds ds' b e is is_b more_d more_e =
    more_d ∙ ap (λ l. l ++ b ∷ []) is ∙ ap (λ x. map is_double (rows es) ++ x ∷ []) is_b
    ∙ sym (ap (λ l. map is_double (rows l)) more_e ∙ ap (map is_double) (rows_last es e) ∙ map-append is_double (rows es) (row_unless (made_for (rows es) (tree_of e.term)) (tree_of e.term) ∷ []))

-- and of none, after all
pub doubles_back : (es es' : List Entry) (ds ds' ds'' : List Bool) (n : ℕ) → ds ≡ map is_double (rows es) → n ≡ length es → ds'' ≡ take n ds' → take (length ds) ds' ≡ ds → es' ≡ es → ds'' ≡ map is_double (rows es')
doubles_back es es' ds ds' ds'' n is long back same is_es =
    let m : n ≡ length ds = omega (arith, long, ap length is, length-map (rows es) is_double, rows_length es) in
    back ∙ ap (λ k. take k ds') m ∙ same ∙ is ∙ ap (λ l. map is_double (rows l)) (sym is_es)
