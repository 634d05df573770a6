-- Variables that are counted.
use Rattle.std.proofs.Common.{◌≡◌, ℕ, zero, suc, ◌+◌, ◌<◌, List, [], ◌∷◌, ◌++◌, length, map, drop, get_or, set, replicate, Bool, true, false, cond, not, Some, refl, sym, ap, ◌∙◌, arith, append_assoc, inl, inr, ◌⊎◌}
use Rattle.std.specs.Prelude.{◌==◌, slice_get}
use Rattle.std.proofs.Math.Dec.{eqb-suc-zero, eqb-suc-suc}
use Rattle.std.proofs.lemmas.Bool.{eq-eqb, eqb-true, cases_eq}
use Rattle.anb_lemmas.proofs.Lists.{set_gets, set_apart, set_long}
use Rattle.anb_term.specs.declared.term.Term.{Term}
use Rattle.anb_term.specs.Tree.{Tree, trees_of}
use Rattle.anb_term.specs.View.{tree_of}
use Rattle.anb_term.proofs.Lists.{split_at}
use Rattle.anb_pattern.specs.Variables.{count_in, count_in_all, count_in_each, picked_from, stands_once}
use Rattle.anb_pattern.specs.Counts.{AreCounts, IsCounted, capped, one_more, stands}

capped_more : (k : ℕ) → capped (suc k) ≡ one_more (capped k)
capped_more zero = refl
capped_more (suc zero) = refl
capped_more (suc (suc k)) = refl

capped_one : (k : ℕ) → (capped k == 1) ≡ (k == 1)
capped_one zero = refl
capped_one (suc zero) = refl
capped_one (suc (suc k)) = eqb-suc-suc 1 0 ∙ eqb-suc-zero 0 ∙ sym (eqb-suc-suc (suc k) 0 ∙ eqb-suc-zero k)

-- ---- one after another

pub counted_none : (names : ℕ) (counts : List ℕ) → IsCounted names (λ v. 0) counts counts
counted_none names counts = record { long = refl; counts = λ f are i h. let z : f (names + i) ≡ f (names + i) + 0 = omega arith in are i h ∙ ap (λ n. Some (capped n)) z }

pub counted_same : (names : ℕ) (f g : ℕ → ℕ) (old new : List ℕ) → ((v : ℕ) → f v ≡ g v) → IsCounted names f old new → IsCounted names g old new
counted_same names f g old new same c = record { long = c.long; counts = λ h are i l. c.counts h are i l ∙ ap (λ n. Some (capped (h (names + i) + n))) (same (names + i)) }

pub counted_on : (names : ℕ) (f g : ℕ → ℕ) (a b c : List ℕ) → IsCounted names f a b → IsCounted names g b c → IsCounted names (λ v. f v + g v) a c
counted_on names f g a b c one two = record {
  long = two.long ∙ one.long;
  counts = λ h are i l.
      let z : h (names + i) + f (names + i) + g (names + i) ≡ h (names + i) + (f (names + i) + g (names + i)) = omega arith in
      two.counts (λ v. h v + f v) (one.counts h are) i l ∙ ap (λ n. Some (capped n)) z;
}

pub count_snoc : (a : ℕ) (ts : List Tree) (t : Tree) → count_in_all a (trees_of ts) + count_in a t ≡ count_in_all a (trees_of (ts ++ t ∷ []))
count_snoc a [] t = omega arith
count_snoc a (u ∷ ts) t = omega (arith, count_snoc a ts t)

pub count_each : (a : ℕ) (ts : List Tree) → count_in_all a (trees_of ts) ≡ count_in_each a ts
count_each a [] = refl
count_each a (t ∷ ts) = ap (λ n. count_in a t + n) (count_each a ts)

-- ---- an atom

abbrev at_atom : ℕ → ℕ → ℕ
at_atom n v = cond (n == v) 1 0

other_atom : (n v : ℕ) → (n ≡ v → ⊥) → at_atom n v ≡ 0
other_atom n v apart = by (n == v) refl
  where
    by : (b : Bool) → (n == v) ≡ b → ◌≡◌ {A = ℕ} (cond (n == v) 1 0) 0
    by true e = absurd (apart (eqb-true n v e))
    by false e = ap (λ b. cond b 1 0) e

this_atom : (n v : ℕ) → n ≡ v → at_atom n v ≡ 1
this_atom n v e = ap (λ b. cond b 1 0) (eq-eqb n v e)

-- an atom that is none of the variables
pub counted_other : (names n : ℕ) (counts : List ℕ) → ((i : ℕ) → i < length counts → n ≡ names + i → ⊥) → IsCounted names (λ v. cond (n == v) 1 0) counts counts
counted_other names n counts apart = record {
  long = refl;
  counts = λ f are i h. (
      let o = other_atom n (names + i) (apart i h) in
      let z : f (names + i) ≡ f (names + i) + cond (n == names + i) 1 0 = omega (arith, o) in
      are i h ∙ ap (λ k. Some (capped k)) z);
}

pub counted_atom : (names n i x : ℕ) (old : List ℕ) → n ≡ names + i → i < length old → slice_get old i ≡ Some x → IsCounted names (λ v. cond (n == v) 1 0) old (set old i (one_more x))
counted_atom names n i x old is within at = record {
  long = set_long old i (one_more x);
  counts = λ f are j h. go f are j (omega (arith, h, set_long old i (one_more x))) (cases_eq j i);
}
  where
    go : (f : ℕ → ℕ) → AreCounts names f old → (j : ℕ) → j < length old → (j ≡ i) ⊎ (j ≡ i → ⊥) → slice_get (set old i (one_more x)) j ≡ Some (capped (f (names + j) + cond (n == names + j) 1 0))
    go f are j h (inl e) =
        let had : Some x ≡ Some (capped (f (names + i))) = sym at ∙ are i within in
        let s : x ≡ capped (f (names + i)) = cc in
        let t = this_atom n (names + i) is in
        let z : suc (f (names + i)) ≡ f (names + i) + cond (n == names + i) 1 0 = omega (arith, t) in
        ap (slice_get (set old i (one_more x))) e ∙ set_gets old i (one_more x) within ∙ ap (λ k. Some (one_more k)) s ∙ ap Some (sym (capped_more (f (names + i)))) ∙ ap (λ k. Some (capped k)) z
        ∙ ap (λ k. Some (capped (f (names + k) + cond (n == names + k) 1 0))) (sym e)
    go f are j h (inr apart) =
        let o = other_atom n (names + j) (λ e. apart (omega arith)) in
        let z : f (names + j) ≡ f (names + j) + cond (n == names + j) 1 0 = omega (arith, o) in
        set_apart old i j (one_more x) apart ∙ are j h ∙ ap (λ k. Some (capped k)) z

-- ---- from nothing

blank_at : (n i : ℕ) → i < n → slice_get {X = ℕ} (replicate n 0) i ≡ Some 0
blank_at zero i h = absurd (omega arith)
blank_at (suc n) zero h = refl
blank_at (suc n) (suc i) h = blank_at n i (omega arith)

blank_long : (n : ℕ) → length {A = ℕ} (replicate n 0) ≡ n
blank_long zero = refl
blank_long (suc n) = ap suc (blank_long n)

pub counted_all : (names many : ℕ) (patterns : List Tree) (counts : List ℕ) → IsCounted names (λ v. count_in_all v (trees_of patterns)) (replicate many 0) counts → AreCounts names (λ v. count_in_each v patterns) counts
counted_all names many patterns counts c i h =
    let v = names + i in
    let z : 0 + count_in_all v (trees_of patterns) ≡ count_in_each v patterns = omega (arith, count_each v patterns) in
    c.counts (λ v. 0) (λ j l. blank_at many j (omega (arith, l, blank_long many))) i h ∙ ap (λ n. Some (capped n)) z

pub counts_long : (names many : ℕ) (f : ℕ → ℕ) (counts : List ℕ) → IsCounted names f (replicate many 0) counts → length counts ≡ many
counts_long names many f counts c = c.long ∙ blank_long many

-- ---- which stand once

pub stands_as : (names i x : ℕ) (patterns : List Tree) (counts : List ℕ) (once : Bool) → AreCounts names (λ v. count_in_each v patterns) counts → i < length counts → slice_get counts i ≡ Some x
    → cond once (x == 1) (not (x == 1)) ≡ stands patterns once (names + i)
stands_as names i x patterns counts once are h at =
    let had : Some x ≡ Some (capped (count_in_each (names + i) patterns)) = sym at ∙ are i h in
    let s : x ≡ capped (count_in_each (names + i) patterns) = cc in
    let one : (x == 1) ≡ stands_once patterns (names + i) = ap (λ k. k == 1) s ∙ capped_one (count_in_each (names + i) patterns) in
    by once one
  where
    by : (once : Bool) → (x == 1) ≡ stands_once patterns (names + i) → cond once (x == 1) (not (x == 1)) ≡ stands patterns once (names + i)
    by true e = e
    by false e = ap not e

-- one term more is picked, or isn't
pub picked_next : (test : ℕ → Bool) (names i : ℕ) (ts : List Term) (t : Term) (so : Bool) (out new whole : List Tree) → i < length ts → t ≡ get_or ts i t → so ≡ test (names + i) → new ≡ out ++ cond so (tree_of t ∷ []) []
    → out ++ picked_from test (names + i) (map tree_of (drop i ts)) ≡ whole → new ++ picked_from test (names + (i + 1)) (map tree_of (drop (i + 1) ts)) ≡ whole
picked_next test names i ts t so out new whole h e s put before =
    let rest = map tree_of (drop (i + 1) ts) in
    let z : names + (i + 1) ≡ names + i + 1 = omega arith in
    let one = cond (test (names + i)) (tree_of t ∷ []) [] in
    ap (λ l. l ++ picked_from test (names + (i + 1)) rest) (put ∙ ap (λ b. out ++ cond b (tree_of t ∷ []) []) s) ∙ ap (λ n. (out ++ one) ++ picked_from test n rest) z
    ∙ append_assoc out one (picked_from test (names + i + 1) rest) ∙ ap (λ l. out ++ picked_from test (names + i) l) (sym (split_at ts i t h e)) ∙ before
