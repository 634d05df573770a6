-- Classes that become one, with those of their operands.
use Rattle.std.proofs.Common.{◌≡◌, ℕ, zero, suc, ◌+◌, ◌<◌, List, [], ◌∷◌, ◌++◌, length, map, take, Bool, true, false, Some, refl, sym, ap, ◌∙◌, subst}
use Rattle.std.specs.Prelude.{slice_get, unwrap_or, nat_le}
use Rattle.std.proofs.lemmas.Bool.{leb-false}
use Rattle.anb_lemmas.proofs.Lists.{take_got}
use Rattle.anb_term.specs.declared.term.Op.{Op}
use Rattle.anb_term.specs.Tree.{Tree, leaf, node, Trees, trees_of, list_of}
use Rattle.anb_term.specs.TreeSame.{list_of-trees_of}
use Rattle.anb_term.proofs.Lists.{map-append, slice_get-there, slice_get-map}
use Rattle.anb_intern.specs.declared.node.NodeId.{NodeId}
use Rattle.anb_intern.specs.Nodes.{operands_at, AreUnder}
use Rattle.anb_unify.specs.Substitutions.{put_in, KeepsNames}
use Rattle.anb_unify.specs.Classes.{is_variable, SameAt, Respects, AreLike, AreClosed, Stands, IsShortened, AreLinked, AreOne}
use Rattle.anb_unify.proofs.Putting.{put_node}
use Rattle.anb_unify.proofs.Linking.{same_itself, same_over, same_back}

-- ---- what is no variable, where both have the narrated term

module _ (names : ℕ) (put : ℕ → Tree) (keeps : KeepsNames names put) where
  below : (b : Bool) (n : ℕ) → nat_le names n ≡ b → b ≡ false → n < names
  below true n e f = cc
  below false n e f = leb-false names n e

  named : (n : ℕ) (t : Tree) → is_variable names (leaf n) ≡ false → put_in put (leaf n) ≡ t → t ≡ leaf n
  named n t plain e = sym e ∙ keeps n (below (nat_le names n) n refl plain)

  -- a name is like all that has its term
  pub leaf_like : (f : Tree → Tree) (n : ℕ) (u t : Tree) → put_in put (leaf n) ≡ t → put_in put u ≡ t → is_variable names (leaf n) ≡ false → is_variable names u ≡ false → AreLike f (leaf n) u
  leaf_like f n (leaf m) t a b p q = let x = named n t p a in let y = named m t q b in (let s : n ≡ m = cc in s)
  leaf_like f n (node o us) t a b p q = let x = named n t p a in cc

  pub like_leaf : (f : Tree → Tree) (u : Tree) (n : ℕ) (t : Tree) → put_in put u ≡ t → put_in put (leaf n) ≡ t → is_variable names u ≡ false → is_variable names (leaf n) ≡ false → AreLike f u (leaf n)
  like_leaf f (leaf m) n t a b p q = let x = named m t p a in let y = named n t q b in (let s : m ≡ n = cc in s)
  like_leaf f (node o us) n t a b p q = let y = named n t q b in cc

  -- so are two that have a name as their term
  pub like_named : (f : Tree → Tree) (t u : Tree) (n : ℕ) → put_in put t ≡ leaf n → put_in put u ≡ leaf n → is_variable names t ≡ false → is_variable names u ≡ false → AreLike f t u
  like_named f (leaf a) u n x y p q = leaf_like f a u (leaf n) x y p q
  like_named f (node o ts) u n x y p q = cc

-- operators on operands that have one term
pub one_operator : (put : ℕ → Tree) (o p q : Op) (us vs : List Tree) (ws : Trees) → put_in put (node o (trees_of us)) ≡ node q ws → put_in put (node p (trees_of vs)) ≡ node q ws
    → (o ≡ p) × (map (put_in put) us ≡ list_of ws) × (map (put_in put) vs ≡ list_of ws)
one_operator put o p q us vs ws a b =
    let x = sym (put_node put o us) ∙ a in
    let y = sym (put_node put p vs) ∙ b in
    let ox : o ≡ q = cc in
    let py : p ≡ q = cc in
    let tx : trees_of (map (put_in put) us) ≡ ws = cc in
    let ty : trees_of (map (put_in put) vs) ≡ ws = cc in
    (ox ∙ sym py, sym (list_of-trees_of (map (put_in put) us)) ∙ ap list_of tx, sym (list_of-trees_of (map (put_in put) vs)) ∙ ap list_of ty)

pub same_operands : (put : ℕ → Tree) (o p : Op) (us vs : List Tree) → put_in put (node o (trees_of us)) ≡ put_in put (node p (trees_of vs)) → map (put_in put) us ≡ map (put_in put) vs
same_operands put o p us vs e =
    let x = sym (put_node put o us) ∙ e ∙ put_node put p vs in
    let t : trees_of (map (put_in put) us) ≡ trees_of (map (put_in put) vs) = cc in
    sym (list_of-trees_of (map (put_in put) us)) ∙ ap list_of t ∙ list_of-trees_of (map (put_in put) vs)

pub nodes_like : (f : Tree → Tree) (o p : Op) (us vs : List Tree) → o ≡ p → map f us ≡ map f vs → AreLike f (node o (trees_of us)) (node p (trees_of vs))
nodes_like f o p us vs e h = (e, ap (map f) (list_of-trees_of us) ∙ h ∙ sym (ap (map f) (list_of-trees_of vs)))

-- ---- the steps of unifying

module _ (names : ℕ) (ts : List Tree) (old p1 p2 : List NodeId) (one other : ℕ) (a b : NodeId) (first : IsShortened names ts old p1) (second : IsShortened names ts p1 p2)
    (one_is : (f : Tree → Tree) → Respects ts f p1 → SameAt ts f one a.0) (other_is : (f : Tree → Tree) → Respects ts f p2 → SameAt ts f other b.0)
    (a_there : a.0 < length ts) (b_there : b.0 < length ts) where
  back_two : (f : Tree → Tree) → Respects ts f p2 → Respects ts f old
  back_two f h = first.back f (second.back f h)

  pub on_two : (f : Tree → Tree) → Respects ts f old → Respects ts f p2
  on_two f h = second.on f (first.on f h)

  closed_two : (f : Tree → Tree) → AreClosed names ts f old → AreClosed names ts f p2
  closed_two f closed i t at plain =
      let r = closed i t at plain in
      record { root = r.root; term = r.term; is_root = second.roots r.root (first.roots r.root r.is_root); here = r.here; same = r.same; like = r.like }

  -- from the roots to the terms
  from_roots : (f : Tree → Tree) → Respects ts f p2 → SameAt ts f a.0 b.0 → SameAt ts f one other
  from_roots f h s = same_over ts f one a.0 other a_there (one_is f (second.back f h)) (same_over ts f a.0 b.0 other b_there s (same_back ts f other b.0 (other_is f h)))

  -- and back
  pub to_roots : (f : Tree → Tree) → one < length ts → other < length ts → Respects ts f p2 → SameAt ts f one other → SameAt ts f a.0 b.0
  to_roots f n m h s = same_over ts f a.0 one b.0 n (same_back ts f one a.0 (one_is f (second.back f h))) (same_over ts f one other b.0 m s (other_is f h))

  -- one root
  pub same_root : a.0 ≡ b.0 → AreOne names ts old p2 one other
  same_root e = record {
    back = back_two;
    same = λ f h. from_roots f h (same_itself ts f a.0 b.0 e);
    closed = λ f h. closed_two f;
    general = λ put h s. on_two (put_in put) h;
  }

  -- the narrated term at the roots
  pub narrated_root : (put : ℕ → Tree) (t : Tree) → one < length ts → Respects ts (put_in put) old → Stands ts put one t → Stands ts put a.0 t
  narrated_root put t n h s u at = let x = slice_get-there ts one n in sym (one_is (put_in put) (first.on (put_in put) h) x.0 u x.1 at) ∙ s x.0 x.1

  pub narrated_other : (put : ℕ → Tree) (t : Tree) → other < length ts → Respects ts (put_in put) old → Stands ts put other t → Stands ts put b.0 t
  narrated_other put t n h s u at = let x = slice_get-there ts other n in sym (other_is (put_in put) (on_two (put_in put) h) x.0 u x.1 at) ∙ s x.0 x.1

  -- two roots that were linked, and what came of their operands
  pub two_roots : (p3 p4 : List NodeId) → one < length ts → other < length ts → AreLinked names ts p2 p3 a.0 b.0
      → ((f : Tree → Tree) → Respects ts f p4 → Respects ts f p3)
      → ((f : Tree → Tree) → Respects ts f p4 → AreClosed names ts f p3 → AreClosed names ts f p4)
      → ((put : ℕ → Tree) → Respects ts (put_in put) p3 → SameAt ts (put_in put) a.0 b.0 → Respects ts (put_in put) p4)
      → ((f : Tree → Tree) → Respects ts f p4 → (t u : Tree) → slice_get ts a.0 ≡ Some t → slice_get ts b.0 ≡ Some u → is_variable names t ≡ false → is_variable names u ≡ false → AreLike f t u)
      → AreOne names ts old p4 one other
  two_roots p3 p4 n m linked back closed general like = record {
    back = λ f h. back_two f (linked.back f (back f h));
    same = λ f h. from_roots f (linked.back f (back f h)) (linked.same f (back f h));
    closed = λ f h c. closed f h (linked.closed f (back f h) (like f h) (closed_two f c));
    general = λ put h s. (let r = to_roots (put_in put) n m (on_two (put_in put) h) s in general put (linked.on (put_in put) (on_two (put_in put) h) r) r);
  }

  pub respects_linked : (p3 : List NodeId) (put : ℕ → Tree) → one < length ts → other < length ts → AreLinked names ts p2 p3 a.0 b.0 → Respects ts (put_in put) old → SameAt ts (put_in put) one other → Respects ts (put_in put) p3
  respects_linked p3 put n m linked h s = linked.on (put_in put) (on_two (put_in put) h) (to_roots (put_in put) n m (on_two (put_in put) h) s)

pub narrated_same : (ts : List Tree) (put : ℕ → Tree) (one other : ℕ) (t : Tree) → Stands ts put one t → Stands ts put other t → SameAt ts (put_in put) one other
narrated_same ts put one other t a b x y ax by = a x ax ∙ sym (b y by)

-- ---- operands in order

pub operand_at : (ts : List Tree) (ids : List NodeId) (i : ℕ) (id : NodeId) (t : Tree) → slice_get ids i ≡ Some id → slice_get ts id.0 ≡ Some t → slice_get (operands_at ts ids) i ≡ Some t
operand_at ts [] i id t a b = cc
operand_at ts (x ∷ ids) zero id t a b = let s : x ≡ id = cc in ap (λ (y : NodeId). Some (unwrap_or (slice_get ts y.0) (leaf 0))) s ∙ ap (λ o. Some (unwrap_or o (leaf 0))) b
operand_at ts (x ∷ ids) (suc i) id t a b = operand_at ts ids i id t a b

pub operands_long : (ts : List Tree) (ids : List NodeId) → length (operands_at ts ids) ≡ length ids
operands_long ts [] = refl
operands_long ts (x ∷ ids) = ap suc (operands_long ts ids)

pub under_at : (n : ℕ) (ids : List NodeId) (i : ℕ) (id : NodeId) → AreUnder n ids → slice_get ids i ≡ Some id → id.0 < n
under_at n [] i id h e = cc
under_at n (x ∷ ids) zero id h e = let s : x ≡ id = cc in subst (λ (y : NodeId). y.0 < n) s h.0
under_at n (x ∷ ids) (suc i) id h e = under_at n ids i id h.1 e

at_both : {A : Type 0} (f : Tree → A) (xs ys : List Tree) (i : ℕ) (x y : Tree) → map f xs ≡ map f ys → slice_get xs i ≡ Some x → slice_get ys i ≡ Some y → f x ≡ f y
at_both f xs ys i x y e a b = let p = slice_get-map f xs i x a in let q = slice_get-map f ys i y b in let r = ap (λ l. slice_get l i) e in cc

module _ (names : ℕ) (ts : List Tree) (ones others : List NodeId) (i : ℕ) (a b : NodeId) (a_at : slice_get ones i ≡ Some a) (b_at : slice_get others i ≡ Some b) (a_there : a.0 < length ts) (b_there : b.0 < length ts) where
  pub pair_same : (f : Tree → Tree) → map f (operands_at ts ones) ≡ map f (operands_at ts others) → SameAt ts f a.0 b.0
  pair_same f e t u at au = at_both f (operands_at ts ones) (operands_at ts others) i t u e (operand_at ts ones i a t a_at at) (operand_at ts others i b u b_at au)

  pub taken_more : (f : Tree → Tree) → SameAt ts f a.0 b.0 → map f (take i (operands_at ts ones)) ≡ map f (take i (operands_at ts others)) → map f (take (i + 1) (operands_at ts ones)) ≡ map f (take (i + 1) (operands_at ts others))
  taken_more f s e =
      let t = slice_get-there ts a.0 a_there in
      let u = slice_get-there ts b.0 b_there in
      let p = take_got (operands_at ts ones) i t.0 (operand_at ts ones i a t.0 a_at t.1) in
      let q = take_got (operands_at ts others) i u.0 (operand_at ts others i b u.0 b_at u.1) in
      let r = s t.0 u.0 t.1 u.1 in
      ap (map f) p ∙ map-append f (take i (operands_at ts ones)) (t.0 ∷ []) ∙ ap (λ l. l ++ f t.0 ∷ []) e ∙ ap (λ x. map f (take i (operands_at ts others)) ++ x ∷ []) r ∙ sym (map-append f (take i (operands_at ts others)) (u.0 ∷ [])) ∙ ap (map f) (sym q)

pub narrated_at : (ts : List Tree) (put : ℕ → Tree) (ids : List NodeId) (i : ℕ) (id : NodeId) (narrated : List Tree) (t : Tree) → map (put_in put) (operands_at ts ids) ≡ narrated → slice_get ids i ≡ Some id → slice_get narrated i ≡ Some t → Stands ts put id.0 t
narrated_at ts put ids i id narrated t e at n u au =
    let p = slice_get-map (put_in put) (operands_at ts ids) i u (operand_at ts ids i id u at au) in
    let q = ap (λ l. slice_get l i) e in cc
