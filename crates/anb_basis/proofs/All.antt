-- The checks that were given are all that the entries have.
use Rattle.std.proofs.Common.{◌≡◌, ℕ, zero, suc, ◌-◌, ◌<◌, ◌≤◌, List, [], ◌∷◌, ◌++◌, length, Bool, true, false, Option, Some, None, refl, sym, ap, ◌∙◌, subst, arith, inl, inr, ⊎_elim, length-append}
use Rattle.std.specs.Prelude.{slice_get}
use Rattle.std.proofs.Math.ListN.{replicate}
use Rattle.std.proofs.lemmas.List.{length-replicate, length-map}
use Rattle.anb_lemmas.proofs.Lists.{got_within}
use Rattle.anb_term.specs.declared.term.Op.{Op}
use Rattle.anb_term.specs.Tree.{Tree, node}
use Rattle.anb_term.specs.Operator.{undoable}
use Rattle.anb_term.specs.View.{tree_of}
use Rattle.anb_close.specs.Rows.{made_for, mades_for}
use Rattle.anb_close.proofs.Rows.{row_later, made_later, mades_later, entry_made}
use Rattle.anb_close.specs.declared.entry.Entry.{Entry}
use Rattle.anb_close.specs.declared.entry.Opening.{Opening}
use Rattle.anb_close.specs.declared.entry.Origin.TheVariants.{Part}
use Rattle.anb_close.specs.declared.made.Made.{Made}
use Rattle.anb_close.specs.MadeView.{made_tree}
use Rattle.anb_close.specs.Entries.{rows, terms_of, IsKnown}
use Rattle.anb_close.proofs.Finding.{rows_append, rows_length}
use Rattle.anb_term.proofs.Lists.{slice_get-append, slice_get-there}
use Rattle.anb_close.proofs.Growing.{terms_later}
use Rattle.anb_close.proofs.Closing.{opened_row}
use Rattle.anb_basis.specs.declared.check.Check.{Check}
use Rattle.anb_basis.specs.declared.check.Check.TheVariants.{Open, Equal}
use Rattle.anb_basis.specs.Checks.{IsComparedWith, Fits, entry_of, trues, IsGiven, IsBasis, AreAll, OpensMarked, OpensUnmarked, RestMarked}
use Rattle.anb_close.specs.Listed.{AreTouched}
use Rattle.anb_basis.proofs.Listing.{compared_before}

row_stays : (es later : List Entry) (i : ℕ) (r : Option Tree) → slice_get (rows es) i ≡ Some r → slice_get (rows (es ++ later)) i ≡ Some r
row_stays es later i r e = ap (λ l. slice_get l i) (rows_append es later) ∙ row_later (rows es) (terms_of later) i r e

compared_later : (es later : List Entry) (i : ℕ) (c : Tree) → IsComparedWith es i c → IsComparedWith (es ++ later) i c
compared_later es later i c (inl (t, row, at, made)) =
    inl (t, row_stays es later i None row, terms_later es later i t at, ap (λ l. made_for l t) (rows_append es later) ∙ made_later (rows es) (terms_of later) t c made)
compared_later es later i c (inr (o, us, ms, row, u, made, is)) =
    inr (o, us, ms, row_stays es later i (Some (node o us)) row, u, ap (λ l. mades_for l us) (rows_append es later) ∙ mades_later (rows es) (terms_of later) us ms made, is)

fits_later : (es later : List Entry) (c : Check) → Fits es c → Fits (es ++ later) c
fits_later es later (Open x) (e, at, is) = (e, slice_get-append es later x.first e at, is)
fits_later es later (Equal i w) h = compared_later es later i (made_tree w) h

still_true : (ms : List Bool) (n i : ℕ) → slice_get (ms ++ replicate n false) i ≡ Some true → slice_get ms i ≡ Some true
still_true [] zero i e = e
still_true [] (suc n) zero e = cc
still_true [] (suc n) (suc i) e = let h = still_true [] n i e in h
still_true (m ∷ ms) n zero e = e
still_true (m ∷ ms) n (suc i) e = still_true ms n i e

trues_more : (ms : List Bool) (n : ℕ) → trues (ms ++ replicate n false) ≡ trues ms
trues_more [] zero = refl
trues_more [] (suc n) = trues_more [] n
trues_more (true ∷ ms) n = ap suc (trues_more ms n)
trues_more (false ∷ ms) n = trues_more ms n

-- entries came after
pub given_later : (es es' later : List Entry) (cs : List Check) (ms ms' : List Bool) → IsGiven es cs ms → es' ≡ es ++ later → ms' ≡ ms ++ replicate (length es' - length ms) false → IsGiven es' cs ms'
given_later es es' later cs ms ms' g is is_m =
    let n = length es' - length ms in
    let long : length (ms ++ replicate n false) ≡ length es' = omega (arith, length-append ms (replicate n false), length-replicate n false, g.long, ap length is, length-append es later) in
    subst (IsGiven es' cs) (sym is_m) (record {
      fits = λ k c e. subst (λ l. Fits l c) (sym is) (fits_later es later c (g.fits k c e));
      long = long;
      of_check = λ k c e. slice_get-append ms (replicate n false) (entry_of c) true (g.of_check k c e);
      of_mark = λ i e. g.of_mark i (still_true ms n i e);
      once = g.once;
      counted = trues_more ms n ∙ g.counted;
    })

module _ (es : List Entry) (known : IsKnown es) where
  -- an entry that was opened is not compared
  pub not_both : (f : ℕ) (e : Entry) (o : Op) (ks : List Tree) (i : ℕ) (c : Tree) → slice_get es f ≡ Some e → e.origin ≡ Part o 0 ks i → IsComparedWith es i c → ⊥
  not_both f e o ks i c at is (inl (t, row, term_at, made)) = let p = known.parted f e o 0 ks i at is in let r = opened_row es i p.first p.opened in cc
  not_both f e o ks i c at is (inr (q, us, ms, row, u, made, same)) =
      let p = known.parted f e o 0 ks i at is in
      let x = p.opened in
      let r = opened_row es i p.first x in
      let s : x.op ≡ q = cc in
      let v = ap undoable s in
      let w = x.can in
      cc

  one_composition : (i : ℕ) (c d : Tree) → IsComparedWith es i c → IsComparedWith es i d → c ≡ d
  one_composition i c d (inl (t, row, at, made)) (inl (t', row', at', made')) =
      let s : t ≡ t' = cc in let m = ap (made_for (rows es)) s in cc
  one_composition i c d (inl (t, row, at, made)) (inr (o, us, ms, row', u, made', is)) = cc
  one_composition i c d (inr (o, us, ms, row', u, made', is)) (inl (t, row, at, made)) = cc
  one_composition i c d (inr (o, us, ms, row, u, made, is)) (inr (o', us', ms', row', u', made', is')) =
      let s : o ≡ o' = cc in
      let t : us ≡ us' = cc in
      let m = ap (mades_for (rows es)) t in
      let n : ms ≡ ms' = cc in
      cc

  pub one_opening : (f g : ℕ) (e e' : Entry) (o o' : Op) (ks ks' : List Tree) (i i' : ℕ) → slice_get es f ≡ Some e → e.origin ≡ Part o 0 ks i → slice_get es g ≡ Some e' → e'.origin ≡ Part o' 0 ks' i' → i' ≡ i → (f ≡ g) × (o ≡ o') × (ks ≡ ks')
  one_opening f g e e' o o' ks ks' i i' at is at' is' same =
      let p = known.parted f e o 0 ks i at is in
      let q = known.parted g e' o' 0 ks' i' at' is' in
      let a = p.marked in
      let b : slice_get known.firsts i ≡ Some q.first = subst (λ n. slice_get known.firsts n ≡ Some q.first) same q.marked in
      let first : p.first ≡ q.first = cc in
      let here : f ≡ g = omega (arith, p.counts, q.counts, first) in
      let b' : slice_get es f ≡ Some e' = subst (λ n. slice_get es n ≡ Some e') (sym here) at' in
      let entry : e ≡ e' = cc in
      let origin = ap (λ (y : Entry). y.origin) entry in
      let w : Part o 0 ks i ≡ Part o' 0 ks' i' = sym is ∙ origin ∙ is' in
      let w1 : o ≡ o' = cc in
      let w2 : ks ≡ ks' = cc in
      (here, w1, w2)

  module _ (cs : List Check) (ms : List Bool) (basis : IsBasis es cs ms) where
    by_open : (f : ℕ) (e : Entry) (o : Op) (ks : List Tree) (i k : ℕ) (c : Check) → slice_get es f ≡ Some e → e.origin ≡ Part o 0 ks i → slice_get cs k ≡ Some c → entry_of c ≡ i → Fits es c → slice_get cs k ≡ Some (Open (record { op = o; keys = ks; of = i; first = f }))
    by_open f e o ks i k (Equal j w) at is here of fits = absurd (not_both f e o ks i (made_tree w) at is (subst (λ n. IsComparedWith es n (made_tree w)) of fits))
    by_open f e o ks i k (Open x) at is here of fits =
        let u = one_opening f x.first e fits.0 o x.op ks x.keys i x.of at is fits.1 fits.2 of in
        let a : x.op ≡ o = sym u.1 in
        let b : x.keys ≡ ks = sym u.2 in
        let d : x.first ≡ f = sym u.0 in
        let same : x ≡ record { op = o; keys = ks; of = i; first = f } = same_opening x o ks i f a b of d in
        here ∙ ap (λ y. Some (Open y)) same
      where
        same_opening : (x : Opening) (o : Op) (ks : List Tree) (i f : ℕ) → x.op ≡ o → x.keys ≡ ks → x.of ≡ i → x.first ≡ f → x ≡ record { op = o; keys = ks; of = i; first = f }
        same_opening x o ks i f a b c d =
            let mk : Op → List Tree → ℕ → ℕ → Opening = λ p l n g. record { op = p; keys = l; of = n; first = g } in
            ap (λ p. mk p x.keys x.of x.first) a ∙ ap (λ l. mk o l x.of x.first) b ∙ ap (λ n. mk o ks n x.first) c ∙ ap (mk o ks i) d

    by_equal : (i : ℕ) (d : Tree) (k : ℕ) (c : Check) → IsComparedWith es i d → slice_get cs k ≡ Some c → entry_of c ≡ i → Fits es c → (k : ℕ) × (w : Made) × (slice_get cs k ≡ Some (Equal i w)) × (made_tree w ≡ d)
    by_equal i d k (Open x) h here of fits = absurd (not_both x.first fits.0 x.op x.keys x.of d fits.1 fits.2 (subst (λ n. IsComparedWith es n d) (sym of) h))
    by_equal i d k (Equal j w) h here of fits =
        (k, w, here ∙ ap (λ n. Some (Equal n w)) of, one_composition i (made_tree w) d (subst (λ n. IsComparedWith es n (made_tree w)) of fits) h)

    compared_within : (i : ℕ) (c : Tree) → IsComparedWith es i c → i < length (rows es)
    compared_within i c (inl (t, row, at, made)) = got_within (rows es) i None row
    compared_within i c (inr (o, us, ns, row, u, made, is)) = got_within (rows es) i (Some (node o us)) row

    pub are_all : AreAll es cs
    are_all = record {
      opens = λ f e o ks i at is.
          let m = basis.given.of_mark i (basis.opens f e o ks i (got_within es f e at) at is) in
          (m.0, by_open f e o ks i m.0 m.1 at is m.2 m.3 (basis.given.fits m.0 m.1 m.2));
      equals = λ i c h.
          let m = basis.given.of_mark i (basis.equals i c (omega (arith, compared_within i c h, rows_length es)) h) in
          by_equal i c m.0 m.1 h m.2 m.3 (basis.given.fits m.0 m.1 m.2);
    }

-- of the entries before, each double is marked
module _ (es later : List Entry) (cs : List Check) (ms : List Bool) (basis : IsBasis es cs ms) where
  doubles_before : (k i : ℕ) → i < length es → slice_get (rows (es ++ later)) i ≡ Some None → slice_get (ms ++ replicate k false) i ≡ Some true
  doubles_before k i h row =
      let r = slice_get-there (rows es) i (omega (arith, h, rows_length es)) in
      let stays = row_stays es later i r.0 r.1 in
      let here : slice_get (rows es) i ≡ Some None = r.1 ∙ (let s : Some r.0 ≡ Some None = sym stays ∙ row in s) in
      let t = slice_get-there (terms_of es) i (omega (arith, h, length-map es (λ (y : Entry). tree_of y.term))) in
      let m = entry_made [] (terms_of es) i t.0 t.1 in
      slice_get-append ms (replicate k false) i true (basis.equals i m.0 h (inl (t.0, here, t.1, m.1)))

  -- those that are compared and were not before are touched
  pub rest_before : (ks : List ℕ) → AreTouched (rows es) (rows (es ++ later)) ks → (k : ℕ) → RestMarked (es ++ later) (ms ++ replicate k false) (length es) ks
  rest_before ks touched k i c h (inl (t, row, at, made)) = inl (doubles_before k i h row)
  rest_before ks touched k i c h (inr b) = ⊎_elim (λ a. inl (slice_get-append ms (replicate k false) i true (basis.equals i c h a))) (λ l. inr l) (compared_before es (es ++ later) ks touched i c b)

-- of entries that came after, no opening is marked, and of those before each is
module _ (es later : List Entry) (cs : List Check) (ms : List Bool) (basis : IsBasis es cs ms) (known : IsKnown (es ++ later)) where
  front : (xs ys : List Entry) (f : ℕ) (e : Entry) → f < length xs → slice_get (xs ++ ys) f ≡ Some e → slice_get xs f ≡ Some e
  front [] ys f e h at = absurd (omega arith)
  front (x ∷ xs) ys zero e h at = at
  front (x ∷ xs) ys (suc f) e h at = front xs ys f e (omega arith) at

  pub marked_before : (k : ℕ) → OpensMarked (es ++ later) (ms ++ replicate k false) (length es)
  marked_before k f e o ks i h at is = slice_get-append ms (replicate k false) i true (basis.opens f e o ks i h (front es later f e h at) is)

  unmarked_by : (c : Check) (f : ℕ) (e : Entry) (o : Op) (ks : List Tree) (i : ℕ) → length es ≤ f → slice_get (es ++ later) f ≡ Some e → e.origin ≡ Part o 0 ks i → entry_of c ≡ i → Fits es c → ⊥
  unmarked_by (Open x) f e o ks i h at is of fits =
      let here = slice_get-append es later x.first fits.0 fits.1 in
      let u = one_opening (es ++ later) known f x.first e fits.0 o x.op ks x.keys i x.of at is here fits.2 of in
      let w = got_within es x.first fits.0 fits.1 in
      omega (arith, u.0, w)
  unmarked_by (Equal j w) f e o ks i h at is of fits =
      not_both (es ++ later) known f e o ks i (made_tree w) at is (subst (λ n. IsComparedWith (es ++ later) n (made_tree w)) of (compared_later es later j (made_tree w) fits))

  pub unmarked_after : (k : ℕ) → OpensUnmarked (es ++ later) (ms ++ replicate k false) (length es)
  unmarked_after k f e o ks i h at is mark =
      let m = basis.given.of_mark i (still_true ms k i mark) in
      unmarked_by m.1 f e o ks i h at is m.3 (basis.given.fits m.0 m.1 m.2)

module _ (es es' later : List Entry) (cs : List Check) (ms ms' : List Bool) (basis : IsBasis es cs ms) (known : IsKnown es') (is : es' ≡ es ++ later) (is_m : ms' ≡ ms ++ replicate (length es' - length ms) false) where
  at_end : (P : List Entry → List Bool → ℕ → Type 0) → P (es ++ later) (ms ++ replicate (length es' - length ms) false) (length es) → P es' ms' (length ms)
  at_end P h = subst (λ l. P l ms' (length ms)) (sym is) (subst (λ n. P (es ++ later) ms' n) (sym basis.given.long) (subst (λ l. P (es ++ later) l (length es)) (sym is_m) h))

  pub marked_there : OpensMarked es' ms' (length ms)
  marked_there = at_end OpensMarked (marked_before es later cs ms basis (subst IsKnown is known) (length es' - length ms))

  pub rest_there : (ks : List ℕ) → AreTouched (rows es) (rows es') ks → RestMarked es' ms' (length ms) ks
  rest_there ks touched = at_end (λ l m n. RestMarked l m n ks) (rest_before es later cs ms basis ks (subst (λ l. AreTouched (rows es) (rows l) ks) is touched) (length es' - length ms))

  pub unmarked_there : OpensUnmarked es' ms' (length ms)
  unmarked_there = at_end OpensUnmarked (unmarked_after es later cs ms basis (subst IsKnown is known) (length es' - length ms))
