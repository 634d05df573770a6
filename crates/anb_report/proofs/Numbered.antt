-- Terms by their numbers in a pool.
use Rattle.std.proofs.Common.{◌≡◌, ℕ, zero, suc, ◌+◌, ◌<◌, List, [], ◌∷◌, ◌++◌, length, map, take, subst, Bool, true, false, Some, get_or, set, replicate, refl, sym, ap, ◌∙◌, arith}
use Rattle.std.specs.Prelude.{◌||◌, ◌==◌, not, slice_get}
use Rattle.std.specs.List.{list_any}
use Rattle.std.proofs.lemmas.Bool.{eq-eqb, eqb-true}
use Rattle.anb_lemmas.proofs.Bools.{or_false}
use Rattle.anb_lemmas.proofs.Lists.{unflagged, flag_set}
use Rattle.anb_term.specs.Tree.{Tree, tree_eqb}
use Rattle.anb_term.specs.declared.term.Term.{Term}
use Rattle.anb_term.specs.View.{tree_of}
use Rattle.anb_term.specs.TreeSame.{tree_same, tree_itself}
use Rattle.anb_intern.specs.Nodes.{AreDistinct}
use Rattle.anb_report.specs.News.{AreMarked, AreNew, Numbered, news}
use Rattle.anb_report.specs.Noting.{is_none_of}
use Rattle.anb_report.proofs.Marking.{mark_tells}

-- ---- a pool that grows

still_there : (pool more : List Tree) (n : ℕ) (t : Tree) → slice_get pool n ≡ Some t → slice_get (pool ++ more) n ≡ Some t
still_there [] more n t e = cc
still_there (u ∷ pool) more zero t e = e
still_there (u ∷ pool) more (suc n) t e = still_there pool more n t e

pub numbered_still : (pool more terms : List Tree) (numbers : List ℕ) → Numbered pool terms numbers → Numbered (pool ++ more) terms numbers
numbered_still pool more [] [] all = all
numbered_still pool more [] (n ∷ ns) all = all
numbered_still pool more (t ∷ ts) [] all = all
numbered_still pool more (t ∷ ts) (n ∷ ns) all = (still_there pool more n t all.0, numbered_still pool more ts ns all.1)

pub numbered_last : (pool terms : List Tree) (numbers : List ℕ) (t : Tree) (n : ℕ) → Numbered pool terms numbers → slice_get pool n ≡ Some t → Numbered pool (terms ++ t ∷ []) (numbers ++ n ∷ [])
numbered_last pool [] [] t n all e = (e, tt)
numbered_last pool [] (m ∷ ms) t n all e = absurd all
numbered_last pool (u ∷ us) [] t n all e = absurd all
numbered_last pool (u ∷ us) (m ∷ ms) t n all e = (all.0, numbered_last pool us ms t n all.1 e)

one_more : (terms : List Term) (i : ℕ) (x : Term) → slice_get terms i ≡ Some x → map tree_of (take (i + 1) terms) ≡ map tree_of (take i terms) ++ tree_of x ∷ []
one_more [] i x e = cc
one_more (y ∷ ys) zero x e = let s : y ≡ x = cc in ap (λ z. tree_of z ∷ []) s
one_more (y ∷ ys) (suc i) x e = let m : suc i + 1 ≡ suc (i + 1) = omega arith in rw m (ap (λ l. tree_of y ∷ l) (one_more ys i x e))

-- with one term more
pub numbered_next : (pool more grown : List Tree) (terms : List Term) (i : ℕ) (x : Term) (numbers : List ℕ) (n : ℕ) → grown ≡ pool ++ more
    → Numbered pool (map tree_of (take i terms)) numbers → slice_get terms i ≡ Some x → slice_get grown n ≡ Some (tree_of x)
    → Numbered grown (map tree_of (take (i + 1) terms)) (numbers ++ n ∷ [])
numbered_next pool more grown terms i x numbers n is before here there =
    let still = subst (λ p. Numbered p (map tree_of (take i terms)) numbers) (sym is) (numbered_still pool more (map tree_of (take i terms)) numbers before) in
    subst (λ l. Numbered grown l (numbers ++ n ∷ [])) (sym (one_more terms i x here)) (numbered_last grown (map tree_of (take i terms)) numbers (tree_of x) n still there)

-- ---- marks

or_move : (a b c : Bool) → ((a || b) || c) ≡ (b || (a || c))
or_move true true c = refl
or_move true false c = refl
or_move false true c = refl
or_move false false c = refl

pub news_at : (marks : List Bool) (numbers : List ℕ) (i n : ℕ) → slice_get numbers i ≡ Some n
    → slice_get (news marks numbers) i ≡ Some (not (list_any (λ m. m == n) (take i numbers) || get_or marks n true))
news_at marks [] i n e = cc
news_at marks (m ∷ ns) zero n e = let s : m ≡ n = cc in ap (λ k. Some (not (get_or marks k true))) s
news_at marks (m ∷ ns) (suc i) n e =
    let among = list_any (λ k. k == n) (take i ns) in
    news_at (set marks m true) ns i n e
    ∙ ap (λ v. Some (not (among || v))) (flag_set marks m n)
    ∙ ap (λ v. Some (not v)) (sym (or_move (m == n) among (get_or marks n true)))

news_many : (marks : List Bool) (numbers : List ℕ) → length (news marks numbers) ≡ length numbers
news_many marks [] = refl
news_many marks (m ∷ ns) = ap suc (news_many (set marks m true) ns)

-- ---- equal numbers and equal terms

below : (pool : List Tree) (n : ℕ) (t : Tree) → slice_get pool n ≡ Some t → n < length pool
below [] n t e = cc
below (u ∷ pool) zero t e = omega arith
below (u ∷ pool) (suc n) t e = omega (arith, below pool n t e)

module _ (pool : List Tree) (distinct : AreDistinct pool) where
  same : (m n : ℕ) (t u : Tree) → slice_get pool m ≡ Some u → slice_get pool n ≡ Some t → (m == n) ≡ tree_eqb t u
  same m n t u em en = by (tree_eqb t u) (m == n) refl refl
    where
      by : (a b : Bool) → tree_eqb t u ≡ a → (m == n) ≡ b → b ≡ a
      by true b ea eb = let is : t ≡ u = tree_same t u ea in sym eb ∙ eq-eqb m n (distinct m n u em (en ∙ ap Some is))
      by false true ea eb =
          let is : m ≡ n = eqb-true m n eb in
          let one : Some u ≡ Some t = sym em ∙ ap (slice_get pool) is ∙ en in
          let it : u ≡ t = cc in
          sym (tree_itself t) ∙ ap (tree_eqb t) (sym it) ∙ ea
      by false false ea eb = refl

  among : (terms : List Tree) (numbers : List ℕ) (i n : ℕ) (t : Tree) → Numbered pool terms numbers → slice_get pool n ≡ Some t
      → list_any (λ m. m == n) (take i numbers) ≡ list_any (tree_eqb t) (take i terms)
  among terms numbers zero n t all e = refl
  among [] [] (suc i) n t all e = refl
  among [] (m ∷ ms) (suc i) n t all e = absurd all
  among (u ∷ us) [] (suc i) n t all e = absurd all
  among (u ∷ us) (m ∷ ms) (suc i) n t all e =
      ap (λ v. v || list_any (λ k. k == n) (take i ms)) (same m n t u all.0 e)
      ∙ ap (λ v. tree_eqb t u || v) (among us ms i n t all.1 e)

  number_of : (terms : List Tree) (numbers : List ℕ) (i : ℕ) (t : Tree) → Numbered pool terms numbers → slice_get terms i ≡ Some t
      → (n : ℕ) × (slice_get numbers i ≡ Some n) × (slice_get pool n ≡ Some t)
  number_of [] numbers i t all e = cc
  number_of (u ∷ us) [] i t all e = absurd all
  number_of (u ∷ us) (m ∷ ms) zero t all e = (m, refl, all.0 ∙ e)
  number_of (u ∷ us) (m ∷ ms) (suc i) t all e = number_of us ms i t all.1 e

  as_many : (terms : List Tree) (numbers : List ℕ) → Numbered pool terms numbers → length numbers ≡ length terms
  as_many [] [] all = refl
  as_many [] (m ∷ ms) all = absurd all
  as_many (u ∷ us) [] all = absurd all
  as_many (u ∷ us) (m ∷ ms) all = ap suc (as_many us ms all.1)

  -- a number is among those of some terms where the term is one of these
  among_all : (terms : List Tree) (numbers : List ℕ) (n : ℕ) (t : Tree) → Numbered pool terms numbers → slice_get pool n ≡ Some t
      → list_any (λ m. m == n) numbers ≡ list_any (tree_eqb t) terms
  among_all [] [] n t all e = refl
  among_all [] (m ∷ ms) n t all e = absurd all
  among_all (u ∷ us) [] n t all e = absurd all
  among_all (u ∷ us) (m ∷ ms) n t all e =
      ap (λ v. v || list_any (λ k. k == n) ms) (same m n t u all.0 e)
      ∙ ap (λ v. tree_eqb t u || v) (among_all us ms n t all.1 e)

-- what the marks tell is what is asked of the terms
pub told : (pool terms : List Tree) (numbers : List ℕ) → AreDistinct pool → Numbered pool terms numbers → AreNew terms (news (replicate (length pool) false) numbers)
told pool terms numbers distinct numbered = record {
  many = news_many (replicate (length pool) false) numbers ∙ as_many pool distinct terms numbers numbered;
  each = λ i t e.
      let at = number_of pool distinct terms numbers i t numbered e in
      let n = at.0 in
      let inside : n < length pool = below pool n t at.2 in
      news_at (replicate (length pool) false) numbers i n at.1
      ∙ ap (λ v. Some (not (list_any (λ m. m == n) (take i numbers) || v))) (unflagged (length pool) n inside)
      ∙ ap (λ v. Some (not v)) (or_false (list_any (λ m. m == n) (take i numbers)) ∙ among pool distinct terms numbers i n t numbered at.2);
}

-- ---- others

-- a term with this number is one of those whose numbers are marked, or none
pub other_there : (pool some : List Tree) (marks : List Bool) (n : ℕ) (t : Tree) → AreMarked pool some marks → slice_get pool n ≡ Some t
    → not (get_or marks n true) ≡ is_none_of some t
other_there pool some marks n t m e =
    ap (λ l. not (get_or l n true)) m.are
    ∙ ap not (mark_tells (length pool) n m.numbers (below pool n t e) ∙ among_all pool m.distinct some m.numbers n t m.numbered e)

-- one that isn't in the pool is none of them
absent : (pool some : List Tree) (numbers : List ℕ) (t : Tree) → Numbered pool some numbers → ((i : ℕ) → slice_get pool i ≡ Some t → ⊥)
    → list_any (tree_eqb t) some ≡ false
absent pool [] numbers t all never = refl
absent pool (u ∷ us) [] t all never = absurd all
absent pool (u ∷ us) (m ∷ ms) t all never = by (tree_eqb t u) refl (absent pool us ms t all.1 never)
  where
    by : (b : Bool) → tree_eqb t u ≡ b → list_any (tree_eqb t) us ≡ false → (b || list_any (tree_eqb t) us) ≡ false
    by true e later = let is : t ≡ u = tree_same t u e in absurd (never m (all.0 ∙ ap Some (sym is)))
    by false e later = later

pub other_absent : (pool some : List Tree) (marks : List Bool) (t : Tree) → AreMarked pool some marks → ((i : ℕ) → slice_get pool i ≡ Some t → ⊥)
    → true ≡ is_none_of some t
other_absent pool some marks t m never = ap not (sym (absent pool some m.numbers t m.numbered never))
