-- Parents that are replaced, and classes that become one.
use Rattle.std.proofs.Common.{◌≡◌, ℕ, ◌+◌, ◌<◌, List, length, Bool, true, false, cond, Some, refl, sym, ap, ◌∙◌, subst, arith, inl, inr, ◌⊎◌, ⊎_elim}
use Rattle.std.specs.Prelude.{slice_get, slice_set, nat_le}
use Rattle.std.proofs.lemmas.Bool.{cases_eq}
use Rattle.anb_lemmas.proofs.Lists.{set_gets, set_apart, set_long, got_within}
use Rattle.anb_term.specs.Tree.{Tree, leaf, node}
use Rattle.anb_term.proofs.Lists.{slice_get-there, set-at}
use Rattle.anb_intern.specs.declared.node.NodeId.{NodeId}
use Rattle.anb_unify.specs.Classes.{is_variable, varies, rank, AreClasses, IsRoot, SameAt, Respects, AreLike, LikeRoot, AreClosed, IsShortened}

-- ---- likeness

pub like_trans : (f : Tree → Tree) (t u v : Tree) → AreLike f t u → AreLike f u v → AreLike f t v
like_trans f (leaf a) (leaf b) (leaf c) h g = h ∙ g
like_trans f (leaf a) (leaf b) (node p us) h g = absurd g
like_trans f (leaf a) (node p us) v h g = absurd h
like_trans f (node o ts) (leaf b) v h g = absurd h
like_trans f (node o ts) (node p us) (leaf c) h g = absurd g
like_trans f (node o ts) (node p us) (node q vs) h g = (h.0 ∙ g.0, h.1 ∙ g.1)

pub like_sym : (f : Tree → Tree) (t u : Tree) → AreLike f t u → AreLike f u t
like_sym f (leaf a) (leaf b) h = sym h
like_sym f (leaf a) (node p us) h = absurd h
like_sym f (node o ts) (leaf b) h = absurd h
like_sym f (node o ts) (node p us) h = (sym h.0, sym h.1)

pub like_plain : (names : ℕ) (f : Tree → Tree) (t u : Tree) → AreLike f t u → is_variable names t ≡ false → is_variable names u ≡ false
like_plain names f (leaf a) (leaf b) h p = ap (nat_le names) (sym h) ∙ p
like_plain names f (leaf a) (node q us) h p = absurd h
like_plain names f (node o ts) (leaf b) h p = absurd h
like_plain names f (node o ts) (node q us) h p = refl

-- ---- ranks

rank_plain : (names : ℕ) (ts : List Tree) (i : ℕ) (t : Tree) → slice_get ts i ≡ Some t → is_variable names t ≡ false → rank names ts i ≡ i
rank_plain names ts i t at p = ap (λ o. cond (varies names o) (length ts + i) i) at ∙ ap (λ b. cond b (length ts + i) i) p

rank_variable : (names : ℕ) (ts : List Tree) (i : ℕ) (t : Tree) → slice_get ts i ≡ Some t → is_variable names t ≡ true → rank names ts i ≡ length ts + i
rank_variable names ts i t at p = ap (λ o. cond (varies names o) (length ts + i) i) at ∙ ap (λ b. cond b (length ts + i) i) p

plain_by : (b : Bool) (names : ℕ) (ts : List Tree) (lo hi : ℕ) (u : Tree) → is_variable names u ≡ b → slice_get ts lo ≡ Some u → rank names ts lo < rank names ts hi → rank names ts hi ≡ hi → hi < length ts → is_variable names u ≡ false
plain_by false names ts lo hi u is at less r within = is
plain_by true names ts lo hi u is at less r within = absurd (omega (arith, rank_variable names ts lo u at is))

-- what stands before something that is no variable is none
plain_before : (names : ℕ) (ts : List Tree) (lo hi : ℕ) (t u : Tree) → slice_get ts hi ≡ Some t → slice_get ts lo ≡ Some u → is_variable names t ≡ false → rank names ts lo < rank names ts hi → is_variable names u ≡ false
plain_before names ts lo hi t u at_hi at_lo p less = plain_by (is_variable names u) names ts lo hi u refl at_lo less (rank_plain names ts hi t at_hi p) (got_within ts hi t at_hi)

pub same_id : (a b : NodeId) → a.0 ≡ b.0 → a ≡ b
same_id a b e = ap (λ n. record { 0 = n }) e

pub same_itself : (ts : List Tree) (f : Tree → Tree) (i j : ℕ) → i ≡ j → SameAt ts f i j
same_itself ts f i j e t u a b = let s : t ≡ u = (let c = subst (λ x. slice_get ts x ≡ Some t) e a in cc) in ap f s

pub same_over : (ts : List Tree) (f : Tree → Tree) (i j k : ℕ) → j < length ts → SameAt ts f i j → SameAt ts f j k → SameAt ts f i k
same_over ts f i j k within h g t v a c = let b = slice_get-there ts j within in h t b.0 a b.1 ∙ g b.0 v b.1 c

pub same_back : (ts : List Tree) (f : Tree → Tree) (i j : ℕ) → SameAt ts f i j → SameAt ts f j i
same_back ts f i j h t u a b = sym (h u t b a)

-- what a list with one item set has
set_here : {A : Type 0} (xs : List A) (i k : ℕ) (v x : A) → slice_get (slice_set xs i v) k ≡ Some x → ((k ≡ i) × (x ≡ v)) ⊎ (slice_get xs k ≡ Some x)
set_here xs i k v x e = set-at xs i k v x e

module _ (names : ℕ) (ts : List Tree) (ps : List NodeId) (classes : AreClasses names ts ps) where
  -- a parent that is set to one that stands before
  pub set_classes : (i : ℕ) (v : NodeId) → v.0 < length ts → rank names ts v.0 < rank names ts i → AreClasses names ts (slice_set ps i v)
  set_classes i v within less = record {
    long = set_long ps i v ∙ classes.long;
    within = λ k p e. ⊎_elim (λ (a, b). let s : p.0 ≡ v.0 = ap (λ (x : NodeId). x.0) b in omega arith) (λ old. classes.within k p old) (set_here ps i k v p e);
    falls = λ k p e. ⊎_elim
        (λ (a, b). inr (subst (λ x. rank names ts x < rank names ts k) (ap (λ (x : NodeId). x.0) (sym b)) (subst (λ x. rank names ts v.0 < rank names ts x) (sym a) less)))
        (λ old. classes.falls k p old) (set_here ps i k v p e);
  }

  falls_apart : (i : ℕ) (p : NodeId) → slice_get ps i ≡ Some p → (p.0 ≡ i → ⊥) → rank names ts p.0 < rank names ts i
  falls_apart i p at apart = ⊎_elim (λ e. absurd (apart e)) (λ h. h) (classes.falls i p at)

  -- ---- one parent replaced by its own

  module _ (i : ℕ) (p up : NodeId) (at : slice_get ps i ≡ Some p) (at_p : slice_get ps p.0 ≡ Some up) (apart : p.0 ≡ i → ⊥) where
    less : rank names ts up.0 < rank names ts i
    less = ⊎_elim (λ e. subst (λ x. rank names ts x < rank names ts i) (sym e) (falls_apart i p at apart)) (λ h. omega (arith, h, falls_apart i p at apart)) (classes.falls p.0 up at_p)

    pub shorter_classes : AreClasses names ts (slice_set ps i up)
    shorter_classes = set_classes i up (classes.within p.0 up at_p) less

    pub shorter_smaller : rank names ts up.0 < rank names ts i
    shorter_smaller = less

    within_i : i < length ps
    within_i = got_within ps i p at

    still : (k : ℕ) → (k ≡ i → ⊥) → slice_get (slice_set ps i up) k ≡ slice_get ps k
    still k h = set_apart ps i k up h

    set_up : slice_get (slice_set ps i up) i ≡ Some up
    set_up = set_gets ps i up within_i

    pub shorter : IsShortened names ts ps (slice_set ps i up)
    shorter = record {
      back = λ f h k q e. either_back f h k q e;
      on = λ f h k q e. ⊎_elim
          (λ (a, b).
          let s : p.0 < length ts = classes.within i p at in
          let z = same_over ts f i p.0 up.0 s (h i p at) (h p.0 up at_p) in
          subst (λ x. SameAt ts f k x) (ap (λ (y : NodeId). y.0) (sym b)) (subst (λ x. SameAt ts f x up.0) (sym a) z))
          (λ old. h k q old) (set_here ps i k up q e);
      roots = λ r e. still r.0 (λ is. apart (let s : p ≡ r = (let c = subst (λ x. slice_get ps x ≡ Some r) is e in cc) in ap (λ (y : NodeId). y.0) s ∙ is)) ∙ e;
    }
      where
        by_test : (f : Tree → Tree) → Respects ts f (slice_set ps i up) → (k : ℕ) (q : NodeId) → slice_get ps k ≡ Some q → (k ≡ i) ⊎ (k ≡ i → ⊥) → SameAt ts f k q.0
        by_test f h k q e (inr isnt) = h k q (still k isnt ∙ e)
        by_test f h k q e (inl is) =
            let q_is : p ≡ q = (let c = subst (λ x. slice_get ps x ≡ Some q) is e in cc) in
            let a = h i up set_up in
            let b = h p.0 up (still p.0 apart ∙ at_p) in
            let z = same_over ts f i up.0 p.0 (classes.within p.0 up at_p) a (same_back ts f p.0 up.0 b) in
            subst (λ x. SameAt ts f x q.0) (sym is) (subst (λ x. SameAt ts f i x) (ap (λ (y : NodeId). y.0) q_is) z)

        either_back : (f : Tree → Tree) → Respects ts f (slice_set ps i up) → (k : ℕ) (q : NodeId) → slice_get ps k ≡ Some q → SameAt ts f k q.0
        either_back f h k q e = by_test f h k q e (cases_eq k i)

    pub shorter_same : (f : Tree → Tree) → Respects ts f (slice_set ps i up) → SameAt ts f i up.0
    shorter_same f h = h i up set_up

  -- ---- two classes made one

  module _ (lo hi : NodeId) (lo_root : IsRoot ps lo) (hi_root : IsRoot ps hi) (before : rank names ts lo.0 < rank names ts hi.0) (apart : lo.0 ≡ hi.0 → ⊥) where
    hi_within : hi.0 < length ps
    hi_within = got_within ps hi.0 hi hi_root

    lo_there : lo.0 < length ts
    lo_there = classes.within lo.0 lo lo_root

    now : slice_get (slice_set ps hi.0 lo) hi.0 ≡ Some lo
    now = set_gets ps hi.0 lo hi_within

    others : (k : ℕ) → (k ≡ hi.0 → ⊥) → slice_get (slice_set ps hi.0 lo) k ≡ slice_get ps k
    others k h = set_apart ps hi.0 k lo h

    lo_still : IsRoot (slice_set ps hi.0 lo) lo
    lo_still = others lo.0 apart ∙ lo_root

    pub linked_classes : AreClasses names ts (slice_set ps hi.0 lo)
    linked_classes = set_classes hi.0 lo lo_there before

    pub linked_back : (f : Tree → Tree) → Respects ts f (slice_set ps hi.0 lo) → Respects ts f ps
    linked_back f h k q e = by_test (cases_eq k hi.0)
      where
        by_test : (k ≡ hi.0) ⊎ (k ≡ hi.0 → ⊥) → SameAt ts f k q.0
        by_test (inr isnt) = h k q (others k isnt ∙ e)
        by_test (inl is) = let s : hi ≡ q = (let c = subst (λ x. slice_get ps x ≡ Some q) is e in cc) in same_itself ts f k q.0 (is ∙ ap (λ (y : NodeId). y.0) s)

    pub linked_same : (f : Tree → Tree) → Respects ts f (slice_set ps hi.0 lo) → SameAt ts f hi.0 lo.0
    linked_same f h = h hi.0 lo now

    pub linked_on : (f : Tree → Tree) → Respects ts f ps → SameAt ts f hi.0 lo.0 → Respects ts f (slice_set ps hi.0 lo)
    linked_on f h s k q e =
        ⊎_elim (λ (a, b). subst (λ x. SameAt ts f k x) (ap (λ (y : NodeId). y.0) (sym b)) (subst (λ x. SameAt ts f x lo.0) (sym a) s))
        (λ old. h k q old) (set_here ps hi.0 k lo q e)

    pub linked_closed : (f : Tree → Tree) → Respects ts f (slice_set ps hi.0 lo)
        → ((t u : Tree) → slice_get ts hi.0 ≡ Some t → slice_get ts lo.0 ≡ Some u → is_variable names t ≡ false → is_variable names u ≡ false → AreLike f t u)
        → AreClosed names ts f ps → AreClosed names ts f (slice_set ps hi.0 lo)
    linked_closed f h like closed i t at plain = by_test (closed i t at plain) (cases_eq (closed i t at plain).root.0 hi.0)
      where
        by_test : (r : LikeRoot ts f ps t) → (r.root.0 ≡ hi.0) ⊎ (r.root.0 ≡ hi.0 → ⊥) → LikeRoot ts f (slice_set ps hi.0 lo) t
        by_test r (inr isnt) = record { root = r.root; term = r.term; is_root = others r.root.0 isnt ∙ r.is_root; here = r.here; same = r.same; like = r.like }
        by_test r (inl is) =
            let here : slice_get ts hi.0 ≡ Some r.term = subst (λ x. slice_get ts x ≡ Some r.term) is r.here in
            let u = slice_get-there ts lo.0 lo_there in
            let plain_hi = like_plain names f t r.term r.like plain in
            let plain_lo = plain_before names ts lo.0 hi.0 r.term u.0 here u.1 plain_hi before in
            record {
              root = lo;
              term = u.0;
              is_root = lo_still;
              here = u.1;
              same = r.same ∙ linked_same f h r.term u.0 here u.1;
              like = like_trans f t r.term u.0 r.like (like r.term u.0 here u.1 plain_hi plain_lo);
            }

-- shortened twice
pub shortened_on : (names : ℕ) (ts : List Tree) (ps qs rs : List NodeId) → IsShortened names ts ps qs → IsShortened names ts qs rs → IsShortened names ts ps rs
shortened_on names ts ps qs rs a b = record {
  back = λ f h. a.back f (b.back f h);
  on = λ f h. b.on f (a.on f h);
  roots = λ r h. b.roots r (a.roots r h);
}
