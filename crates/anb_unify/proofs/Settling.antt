-- The term that stands for each class, and the patterns that are read off.
use Rattle.std.proofs.Common.{◌≡◌, ℕ, zero, suc, ◌+◌, ◌*◌, ◌<◌, ◌≤◌, List, [], ◌∷◌, length, map, Bool, true, false, cond, Some, refl, sym, ap, ◌∙◌, subst, arith, inl, inr, ◌⊎◌, ⊎_elim}
use Rattle.std.specs.Prelude.{slice_get, unwrap_or, nat_lt}
use Rattle.std.specs.List.{AllByRecursion}
use Rattle.std.specs.Option.{option_map_or}
use Rattle.std.proofs.lemmas.Bool.{le-ltb, lt-ltb, lt-leb}
use Rattle.anb_lemmas.proofs.Lists.{got_within}
use Rattle.anb_term.specs.declared.term.Op.{Op}
use Rattle.anb_term.specs.Tree.{Tree, leaf, node, Trees, none, more, trees_of, list_of, tree_eqb}
use Rattle.anb_term.specs.TreeSame.{tree_same, tree_itself}
use Rattle.anb_term.specs.FreeAlgebra.{terms}
use Rattle.anb_term.proofs.Lists.{slice_get-there}
use Rattle.anb_intern.specs.declared.node.NodeId.{NodeId}
use Rattle.anb_intern.specs.Nodes.{AreDistinct, AreBefore, Below}
use Rattle.anb_plays.specs.Honest.{honest_all}
use Rattle.anb_unify.specs.Substitutions.{put_in, KeepsNames}
use Rattle.anb_unify.specs.Classes.{varies, rank, AreClasses, IsRoot, Respects, AreLike, AreClosed}
use Rattle.anb_unify.specs.Reading.{root_with, root_at, read, read_all, Settles, Keeps, AreRoots}

-- ---- one step up, and many

abbrev up : List NodeId → ℕ → ℕ
up ps i = option_map_or (λ (p : NodeId). p.0) (slice_get ps i) i

abbrev climb : List NodeId → ℕ → ℕ → ℕ
climb ps zero i = i
climb ps (suc n) i = climb ps n (up ps i)

climb_once : (ps : List NodeId) (n i : ℕ) → climb ps (suc n) i ≡ up ps (climb ps n i)
climb_once ps zero i = refl
climb_once ps (suc n) i = climb_once ps n (up ps i)

climb_root : (ps : List NodeId) (n i : ℕ) → up ps i ≡ i → climb ps n i ≡ i
climb_root ps zero i e = refl
climb_root ps (suc n) i e = ap (climb ps n) e ∙ climb_root ps n i e

-- what a term is looked up as, where each is there once
abbrev looked : (ℕ → Tree) → List Tree → ℕ → Tree → Tree
looked F [] k t = t
looked F (u ∷ us) k t = cond (tree_eqb u t) (F k) (looked F us (k + 1) t)

looked_step : (F : ℕ → Tree) (b : Bool) (u t : Tree) (us : List Tree) (k j : ℕ) → tree_eqb u t ≡ b → ((i : ℕ) → slice_get (u ∷ us) i ≡ Some t → i ≡ suc j) → looked F us (k + 1) t ≡ F (k + suc j)
    → cond (tree_eqb u t) (F k) (looked F us (k + 1) t) ≡ F (k + suc j)
looked_step F true u t us k j e one rest = absurd (let z = one 0 (ap Some (tree_same u t e)) in omega arith)
looked_step F false u t us k j e one rest = rw e rest

looked_at : (F : ℕ → Tree) (us : List Tree) (k j : ℕ) (t : Tree) → slice_get us j ≡ Some t → ((i : ℕ) → slice_get us i ≡ Some t → i ≡ j) → looked F us k t ≡ F (k + j)
looked_at F [] k j t at one = cc
looked_at F (u ∷ us) k zero t at one =
    let s : u ≡ t = cc in
    let z : k ≡ k + 0 = omega arith in
    ap (λ b. cond b (F k) (looked F us (k + 1) t)) (ap (λ x. tree_eqb x t) s ∙ tree_itself t) ∙ ap F z
looked_at F (u ∷ us) k (suc j) t at one =
    let n : k + 1 + j ≡ k + suc j = omega arith in
    looked_step F (tree_eqb u t) u t us k j refl one (looked_at F us (k + 1) j t at (λ i e. let h = one (suc i) e in (omega arith)) ∙ ap F n)

module _ (names : ℕ) (ts : List Tree) (ps : List NodeId) (classes : AreClasses names ts ps) (distinct : AreDistinct ts) where
  up_is : (i : ℕ) (p : NodeId) → slice_get ps i ≡ Some p → up ps i ≡ p.0
  up_is i p e = ap (λ o. option_map_or (λ (p : NodeId). p.0) o i) e

  up_within : (i : ℕ) → i < length ts → up ps i < length ts
  up_within i h = let p = slice_get-there ps i (omega (arith, classes.long)) in subst (λ n. n < length ts) (sym (up_is i p.0 p.1)) (classes.within i p.0 p.1)

  climb_within : (n i : ℕ) → i < length ts → climb ps n i < length ts
  climb_within zero i h = h
  climb_within (suc n) i h = climb_within n (up ps i) (up_within i h)

  up_falls : (i : ℕ) → i < length ts → (up ps i ≡ i) ⊎ (rank names ts (up ps i) < rank names ts i)
  up_falls i h =
      let p = slice_get-there ps i (omega (arith, classes.long)) in
      ⊎_elim (λ e. inl (up_is i p.0 p.1 ∙ e)) (λ l. inr (subst (λ n. rank names ts n < rank names ts i) (sym (up_is i p.0 p.1)) l)) (classes.falls i p.0 p.1)

  climbed : (n i : ℕ) → i < length ts → rank names ts i ≤ n → up ps (climb ps n i) ≡ climb ps n i
  climbed zero i h r = ⊎_elim (λ e. e) (λ l. absurd (omega arith)) (up_falls i h)
  climbed (suc n) i h r = ⊎_elim
      (λ e. let s : climb ps n (up ps i) ≡ i = ap (climb ps n) e ∙ climb_root ps n i e in ap (up ps) s ∙ e ∙ sym s)
      (λ l. climbed n (up ps i) (up_within i h) (omega arith))
      (up_falls i h)

  rank_few : (b : Bool) (i : ℕ) → i < length ts → cond b (length ts + i) i ≤ 2 * length ts
  rank_few true i h = omega arith
  rank_few false i h = omega arith

  top : ℕ → ℕ
  top i = climb ps (2 * length ts) i

  top_up : (i : ℕ) → i < length ts → top (up ps i) ≡ top i
  unfolding top
  top_up i h = climb_once ps (2 * length ts) i ∙ climbed (2 * length ts) i h (rank_few (varies names (slice_get ts i)) i h)

  top_root : (r : NodeId) → IsRoot ps r → top r.0 ≡ r.0
  unfolding top
  top_root r e = climb_root ps (2 * length ts) r.0 (up_is r.0 r e)

  top_within : (i : ℕ) → i < length ts → top i < length ts
  unfolding top
  top_within i h = climb_within (2 * length ts) i h

  -- what stands for the class of each term
  pub rep : Tree → Tree
  rep t = looked (λ i. unwrap_or (slice_get ts (top i)) (leaf 0)) ts 0 t

  rep_is : (i : ℕ) (t : Tree) → slice_get ts i ≡ Some t → rep t ≡ unwrap_or (slice_get ts (top i)) (leaf 0)
  unfolding rep
  rep_is i t at = looked_at (λ i. unwrap_or (slice_get ts (top i)) (leaf 0)) ts 0 i t at (λ j e. distinct j i t e at) ∙ (let z : 0 + i ≡ i = omega arith in ap (λ n. unwrap_or (slice_get ts (top n)) (leaf 0)) z)

  pub rep_respects : Respects ts rep ps
  rep_respects i p e t u at au =
      let s : top i ≡ top p.0 = sym (top_up i (got_within ts i t at)) ∙ ap top (up_is i p e) in
      rep_is i t at ∙ ap (λ n. unwrap_or (slice_get ts n) (leaf 0)) s ∙ sym (rep_is p.0 u au)

  pub rep_root : (r : NodeId) (u : Tree) → IsRoot ps r → slice_get ts r.0 ≡ Some u → rep u ≡ u
  rep_root r u root at = rep_is r.0 u at ∙ ap (λ n. unwrap_or (slice_get ts n) (leaf 0)) (top_root r root) ∙ ap (λ o. unwrap_or o (leaf 0)) at

  like_by : (t u v : Tree) → v ≡ u → AreLike rep t u → AreLike rep t v
  like_by t u v e h = subst (AreLike rep t) (sym e) h

  pub settles : (roots : List NodeId) → length roots ≡ length ts → AreRoots ts ps roots → AreClosed names ts rep ps → Settles names ts roots rep
  settles roots long are closed = record {
    at = λ i t at.
        let r = slice_get-there roots i (omega (arith, got_within ts i t at, long)) in
        let root = are.each i r.0 r.1 in
        let u = slice_get-there ts r.0.0 (classes.within r.0.0 r.0 root) in
        let same = are.same i r.0 r.1 rep rep_respects t u.0 at u.1 in
        (r.0, r.1, u.1 ∙ ap Some (sym (same ∙ rep_root r.0 u.0 root u.1)));
    like = λ i t at plain.
        let l = closed i t at plain in
        like_by t l.term (rep t) (l.same ∙ rep_root l.root l.term l.is_root l.here) l.like;
  }

-- ---- what is read

module _ (rep : Tree → Tree) where
  -- it depends on what stands for the class
  pub read_same : (t u h : Tree) → rep t ≡ rep u → read rep t h ≡ read rep u h
  read_same t u (leaf n) e = ap (root_at n) e
  read_same t u (node o hs) e = ap (λ x. root_with x (λ us. read_all rep us hs)) e

  read_all_same : (us vs hs : Trees) → map rep (list_of us) ≡ map rep (list_of vs) → read_all rep us hs ≡ read_all rep vs hs
  read_all_same us vs none e = refl
  read_all_same none none (more h hs) e = refl
  read_all_same none (more v vs) (more h hs) e = cc
  read_all_same (more u us) none (more h hs) e = cc
  read_all_same (more u us) (more v vs) (more h hs) e =
      let a : rep u ≡ rep v = cc in
      let b : map rep (list_of us) ≡ map rep (list_of vs) = cc in
      ap (λ x. more x (read_all rep us hs)) (read_same u v h a) ∙ ap (more (read rep v h)) (read_all_same us vs hs b)

  pub read_leaf : (t : Tree) (a : ℕ) (h : Tree) → rep t ≡ leaf a → read rep t h ≡ leaf a
  read_leaf t a (leaf n) e = ap (root_at n) e
  read_leaf t a (node o hs) e = ap (λ x. root_with x (λ us. read_all rep us hs)) e

module _ (names : ℕ) (ts : List Tree) (roots : List NodeId) (rep : Tree → Tree) (settled : Settles names ts roots rep) (before : AreBefore ts) where
  abbrev In : Tree → Type 0
  In t = (i : ℕ) × (slice_get ts i ≡ Some t)

  ins : (i : ℕ) (us : List Tree) → AllByRecursion (Below ts i) us → AllByRecursion In us
  ins i [] h = tt
  ins i (u ∷ us) h = ((h.0.0, h.0.2), ins i us h.1)

  operands_in : (o : Op) (us : Trees) → In (node o us) → AllByRecursion In (list_of us)
  operands_in o us (i, at) = ins i (list_of us) (before i o us at)

  rep_in : (t : Tree) → In t → In (rep t)
  rep_in t (i, at) = let r = settled.at i t at in (r.0.0, r.2)

  -- a term that stands for one with an operator has it, and operands alike
  module _ (h : ℕ → Tree) (keeps : KeepsNames names h) (kept : Keeps ts rep h) where
    -- the solution: what is read of a variable
    pub most : ℕ → Tree
    most v = cond (nat_lt v names) (leaf v) (read rep (leaf v) (h v))

    pub most_keeps : KeepsNames names most
    unfolding most
    most_keeps n l = rw (lt-ltb n names l)

    pub most_at : (v : ℕ) → names ≤ v → most v ≡ read rep (leaf v) (h v)
    unfolding most
    most_at v l = rw (le-ltb v names l)

    like_name : (n : ℕ) (t : Tree) → AreLike rep (leaf n) t → t ≡ leaf n
    like_name n (leaf m) e = ap leaf (sym e)
    like_name n (node o us) e = absurd e

    leaf_by : (v : ℕ) → In (leaf v) → (names ≤ v) ⊎ (v < names) → most v ≡ read rep (leaf v) (h v)
    leaf_by v is (inl l) = most_at v l
    leaf_by v (i, at) (inr l) = most_keeps v l ∙ sym (read_leaf rep (leaf v) v (h v) (like_name v (rep (leaf v)) (settled.like i (leaf v) at (lt-leb names v l))))

    either_way : (a b : ℕ) → (b ≤ a) ⊎ (a < b)
    either_way a zero = inl (omega arith)
    either_way zero (suc b) = inr (omega arith)
    either_way (suc a) (suc b) = ⊎_elim (λ l. inl (omega arith)) (λ l. inr (omega arith)) (either_way a b)

    node_read : (o : Op) (us : Trees) (t : Tree) (hs ms : Trees) → AreLike rep (node o us) t → read_all rep us hs ≡ ms → root_with t (λ vs. read_all rep vs hs) ≡ node o ms
    node_read o us (leaf a) hs ms e m = absurd e
    node_read o us (node p vs) hs ms e m = ap (λ q. node q (read_all rep vs hs)) (sym e.0) ∙ ap (node o) (sym (read_all_same rep us vs hs e.1) ∙ m)

    mutual
      -- the solution of a term of the pool is what is read of it
      pub most_read : (t : Tree) → In t → put_in most t ≡ read rep t (put_in h t)
      most_read (leaf v) is = leaf_by v is (either_way v names)
      most_read (node o us) is =
          let m = all_read us (operands_in o us is) in
          sym (node_read o us (rep (node o us)) (trees_of (honest_all terms h us)) (trees_of (honest_all terms most us)) (settled.like is.0 (node o us) is.1 refl) m)

      all_read : (us : Trees) → AllByRecursion In (list_of us) → read_all rep us (trees_of (honest_all terms h us)) ≡ trees_of (honest_all terms most us)
      all_read none is = refl
      all_read (more u us) is =
          ap (λ x. more x (read_all rep us (trees_of (honest_all terms h us)))) (sym (most_read u is.0)) ∙ ap (more (put_in most u)) (all_read us is.1)

    -- each solution gives what it gives for what is read
    module _ (put : ℕ → Tree) (also : Keeps ts rep put) where
      by_leaf : (n : ℕ) (x t : Tree) → In t → rep t ≡ x → put_in h t ≡ leaf n → put_in put t ≡ put_in put (read rep t (leaf n))
      by_leaf n (leaf a) t is r e = also is.0 t is.1 ∙ ap (put_in put) (r ∙ sym (read_leaf rep t a (leaf n) r))
      by_leaf n (node p vs) t is r e = let z : put_in h (node p vs) ≡ leaf n = ap (put_in h) (sym r) ∙ sym (kept is.0 t is.1) ∙ e in cc

      by_node : (o : Op) (hs : Trees) (x t : Tree) → In t → rep t ≡ x → put_in h t ≡ node o hs
          → ((vs : Trees) → AllByRecursion In (list_of vs) → trees_of (honest_all terms h vs) ≡ hs → honest_all terms put vs ≡ honest_all terms put (read_all rep vs hs))
          → put_in put t ≡ put_in put (read rep t (node o hs))
      by_node o hs (leaf a) t is r e all = also is.0 t is.1 ∙ ap (put_in put) (r ∙ sym (read_leaf rep t a (node o hs) r))
      by_node o hs (node p vs) t is r e all =
          let z : put_in h (node p vs) ≡ node o hs = ap (put_in h) (sym r) ∙ sym (kept is.0 t is.1) ∙ e in
          let q : trees_of (honest_all terms h vs) ≡ hs = cc in
          let inside : AllByRecursion In (list_of vs) = operands_in p vs (subst In r (rep_in t is)) in
          also is.0 t is.1 ∙ ap (put_in put) r ∙ ap (λ l. node p (trees_of l)) (all vs inside q) ∙ ap (λ x. put_in put (root_with x (λ us. read_all rep us hs))) (sym r)

      mutual
        pub read_general : (H t : Tree) → In t → put_in h t ≡ H → put_in put t ≡ put_in put (read rep t H)
        read_general (leaf n) t is e = by_leaf n (rep t) t is refl e
        read_general (node o hs) t is e = by_node o hs (rep t) t is refl e (λ vs inside q. all_general hs vs inside q)

        all_general : (hs vs : Trees) → AllByRecursion In (list_of vs) → trees_of (honest_all terms h vs) ≡ hs → honest_all terms put vs ≡ honest_all terms put (read_all rep vs hs)
        all_general none none is e = refl
        all_general none (more v vs) is e = cc
        all_general (more g hs) none is e = cc
        all_general (more g hs) (more v vs) is e =
            let a : put_in h v ≡ g = cc in
            let b : trees_of (honest_all terms h vs) ≡ hs = cc in
            ap (λ x. x ∷ honest_all terms put vs) (read_general g v is.0 a) ∙ ap (λ l. put_in put (read rep v g) ∷ l) (all_general hs vs is.1 b)
