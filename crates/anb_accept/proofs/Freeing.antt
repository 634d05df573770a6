-- A part may be anything exactly where a variable stands once.
use Rattle.std.proofs.Common.{◌≡◌, ℕ, zero, suc, ◌+◌, ◌<◌, ◌≤◌, List, [], ◌∷◌, map, Bool, true, false, cond, Option, Some, None, refl, sym, ap, ◌∙◌, subst, arith, inl, inr, ◌⊎◌, ⊎_elim, option_map}
use Rattle.std.specs.Prelude.{slice_get, slice_set, option_and_then, ◌==◌}
use Rattle.std.proofs.lemmas.Bool.{eq-eqb, eqb-true, cases_eq}
use Rattle.anb_term.specs.declared.term.Op.{Op}
use Rattle.anb_term.specs.Tree.{Tree, leaf, node, Trees, none, more, trees_of, list_of}
use Rattle.anb_term.specs.TreeSame.{list_of-trees_of}
use Rattle.anb_term.specs.FreeAlgebra.{terms}
use Rattle.anb_plays.specs.Plans.{Event}
use Rattle.anb_plays.specs.Honest.{honest_all}
use Rattle.anb_accept.specs.Patterns.{ArePatterns}
use Rattle.anb_unify.specs.Substitutions.{put_in, KeepsNames}
use Rattle.anb_pattern.specs.Variables.{count_in, count_in_all, count_in_each}
use Rattle.anb_accept.specs.Parts.{operands, with_operands, part_at, with_part, set_if, IsFree, IsUncheckedAt}
use Rattle.anb_accept.specs.Laws.{FreeIsUnchecked}
use Rattle.anb_unify.proofs.Putting.{put_all, each_itself}

-- ---- counting

count_list : (a : ℕ) (ts : Trees) → count_in_all a ts ≡ count_in_each a (list_of ts)
count_list a none = refl
count_list a (more t ts) = ap (λ n. count_in a t + n) (count_list a ts)

one_here : (a : ℕ) → count_in a (leaf a) ≡ 1
one_here a = ap (λ b. cond b 1 0) (eq-eqb a a refl)

none_here : (a n : ℕ) → (n ≡ a → ⊥) → count_in a (leaf n) ≡ 0
none_here a n apart = by_test (n == a) refl
  where
    by_test : (b : Bool) → (n == a) ≡ b → ◌≡◌ {A = ℕ} (cond (n == a) 1 0) 0
    by_test true e = absurd (apart (eqb-true n a e))
    by_test false e = ap (λ b. cond b 1 0) e

-- ---- another term for one variable

instead : (ℕ → Tree) → ℕ → Tree → ℕ → Tree
instead put x u n = cond (n == x) u (put n)

instead_here : (put : ℕ → Tree) (x : ℕ) (u : Tree) → instead put x u x ≡ u
unfolding instead
instead_here put x u = ap (λ b. cond b u (put x)) (eq-eqb x x refl)

instead_other : (put : ℕ → Tree) (x : ℕ) (u : Tree) (n : ℕ) → count_in x (leaf n) ≡ 0 → instead put x u n ≡ put n
unfolding instead
instead_other put x u n gone = by_test (n == x) refl gone
  where
    by_test : (b : Bool) → (n == x) ≡ b → ◌≡◌ {A = ℕ} (cond (n == x) 1 0) 0 → cond (n == x) u (put n) ≡ put n
    by_test true e z = let one : ◌≡◌ {A = ℕ} 1 0 = ap (λ b. cond b 1 0) (sym e) ∙ z in absurd (omega arith)
    by_test false e z = ap (λ b. cond b u (put n)) e

module _ (put : ℕ → Tree) (x : ℕ) (u : Tree) where
  mutual
    stays : (t : Tree) → count_in x t ≡ 0 → put_in (instead put x u) t ≡ put_in put t
    stays (leaf n) gone = instead_other put x u n gone
    stays (node o ts) gone = ap (λ l. node o (trees_of l)) (all_stay ts gone)

    all_stay : (ts : Trees) → count_in_all x ts ≡ 0 → honest_all terms (instead put x u) ts ≡ honest_all terms put ts
    all_stay none gone = refl
    all_stay (more t ts) gone = ap (λ v. v ∷ honest_all terms (instead put x u) ts) (stays t (omega arith)) ∙ ap (λ l. put_in put t ∷ l) (all_stay ts (omega arith))

  each_stays : (ts : List Tree) → count_in_each x ts ≡ 0 → map (put_in (instead put x u)) ts ≡ map (put_in put) ts
  each_stays [] gone = refl
  each_stays (t ∷ ts) gone = ap (λ v. v ∷ map (put_in (instead put x u)) ts) (stays t (omega arith)) ∙ ap (λ l. put_in put t ∷ l) (each_stays ts (omega arith))

-- ---- where a part is

at_most : (a : ℕ) (ts : List Tree) (i : ℕ) (t : Tree) → slice_get ts i ≡ Some t → count_in a t ≤ count_in_each a ts
at_most a [] i t e = cc
at_most a (u ∷ ts) zero t e = let s : u ≡ t = cc in subst (λ v. count_in a v ≤ count_in a u + count_in_each a ts) s (omega arith)
at_most a (u ∷ ts) (suc i) t e = omega (arith, at_most a ts i t e)

in_operands : (a : ℕ) (t : Tree) → count_in_each a (operands t) ≤ count_in a t
in_operands a (leaf n) = omega arith
in_operands a (node o ts) = omega (arith, count_list a ts)

gone_in : (i j : ℕ) (js : List ℕ) (ts : List Tree) (t : Tree) → part_at (i ∷ j ∷ js) ts ≡ Some t → (u : Tree) × (slice_get ts i ≡ Some u) × (part_at (j ∷ js) (operands u) ≡ Some t)
gone_in i j js ts t e = go (slice_get ts i) refl e
  where
    go : (o : Option Tree) → slice_get ts i ≡ o → option_and_then (λ t. part_at (j ∷ js) (operands t)) o ≡ Some t → (u : Tree) × (slice_get ts i ≡ Some u) × (part_at (j ∷ js) (operands u) ≡ Some t)
    go None at e = cc
    go (Some u) at e = (u, at, e)

counted : (x : ℕ) (place : List ℕ) (ts : List Tree) → part_at place ts ≡ Some (leaf x) → 1 ≤ count_in_each x ts
counted x [] ts e = cc
counted x (i ∷ []) ts e = omega (arith, at_most x ts i (leaf x) e, one_here x)
counted x (i ∷ j ∷ js) ts e =
    let g = gone_in i j js ts (leaf x) e in
    omega (arith, at_most x ts i g.0 g.1, in_operands x g.0, counted x (j ∷ js) (operands g.0) g.2)

-- ---- putting in place

put_got : (put : ℕ → Tree) (ts : List Tree) (i : ℕ) (t : Tree) → slice_get ts i ≡ Some t → slice_get (map (put_in put) ts) i ≡ Some (put_in put t)
put_got put [] i t e = cc
put_got put (u ∷ ts) zero t e = let s : u ≡ t = cc in ap (λ v. Some (put_in put v)) s
put_got put (u ∷ ts) (suc i) t e = put_got put ts i t e

operands_put : (put : ℕ → Tree) (o : Op) (ts : Trees) → operands (put_in put (node o ts)) ≡ map (put_in put) (list_of ts)
operands_put put o ts = list_of-trees_of (honest_all terms put ts) ∙ put_all put ts

step_is : (i j : ℕ) (js : List ℕ) (v : Tree) (ts : List Tree) (t : Tree) → slice_get ts i ≡ Some t → with_part (i ∷ j ∷ js) v ts ≡ slice_set ts i (with_operands t (with_part (j ∷ js) v (operands t)))
step_is i j js v ts t e = ap (λ o. set_if ts i (option_map (λ t. with_operands t (with_part (j ∷ js) v (operands t))) o)) e

module _ (put : ℕ → Tree) (x : ℕ) (u : Tree) where
  replaced : (ts : List Tree) (i : ℕ) (t v : Tree) → slice_get ts i ≡ Some t → count_in_each x ts ≡ 1 → 1 ≤ count_in x t → v ≡ put_in (instead put x u) t → slice_set (map (put_in put) ts) i v ≡ map (put_in (instead put x u)) ts
  replaced [] i t v e one some is = cc
  replaced (w ∷ ts) zero t v e one some is =
      let s : w ≡ t = cc in
      let c : 1 ≤ count_in x w = subst (λ z. 1 ≤ count_in x z) (sym s) some in
      ap (λ z. z ∷ map (put_in put) ts) (is ∙ ap (put_in (instead put x u)) (sym s)) ∙ ap (λ l. put_in (instead put x u) w ∷ l) (sym (each_stays put x u ts (omega arith)))
  replaced (w ∷ ts) (suc i) t v e one some is =
      let m = at_most x ts i t e in
      ap (λ z. z ∷ slice_set (map (put_in put) ts) i v) (sym (stays put x u w (omega arith))) ∙ ap (λ l. put_in (instead put x u) w ∷ l) (replaced ts i t v e (omega arith) some is)

  placed : (place : List ℕ) (ts : List Tree) → part_at place ts ≡ Some (leaf x) → count_in_each x ts ≡ 1 → with_part place u (map (put_in put) ts) ≡ map (put_in (instead put x u)) ts
  placed [] ts e one = cc
  placed (i ∷ []) ts e one = replaced ts i (leaf x) u e one (omega (arith, one_here x)) (sym (instead_here put x u))
  placed (i ∷ j ∷ js) ts e one =
      let g = gone_in i j js ts (leaf x) e in
      let c = counted x (j ∷ js) (operands g.0) g.2 in
      let some : 1 ≤ count_in x g.0 = omega (arith, in_operands x g.0) in
      let inside : count_in_each x (operands g.0) ≡ 1 = omega (arith, in_operands x g.0, at_most x ts i g.0 g.1) in
      step_is i j js u (map (put_in put) ts) (put_in put g.0) (put_got put ts i g.0 g.1)
      ∙ replaced ts i g.0 (with_operands (put_in put g.0) (with_part (j ∷ js) u (operands (put_in put g.0)))) g.1 one some (built g.0 (λ l. with_part (j ∷ js) u l) g.2 (placed (j ∷ js) (operands g.0) g.2 inside))
    where
      built : (t : Tree) (f : List Tree → List Tree) → part_at (j ∷ js) (operands t) ≡ Some (leaf x) → f (map (put_in put) (operands t)) ≡ map (put_in (instead put x u)) (operands t)
          → with_operands (put_in put t) (f (operands (put_in put t))) ≡ put_in (instead put x u) t
      built (leaf n) f e h = no_part j js e
        where
          no_part : (j : ℕ) (js : List ℕ) → part_at (j ∷ js) [] ≡ Some (leaf x) → with_operands (put n) (f (operands (put n))) ≡ instead put x u n
          no_part j [] e = cc
          no_part j (k ∷ ks) e = cc
      built (node o us) f e h = ap (λ l. node o (trees_of l)) (ap f (operands_put put o us) ∙ h ∙ sym (put_all (instead put x u) us))

instead_keeps : (names : ℕ) (put : ℕ → Tree) (x : ℕ) (u : Tree) → names ≤ x → KeepsNames names put → KeepsNames names (instead put x u)
instead_keeps names put x u above keeps n l = instead_other put x u n (none_here x n (λ e. omega arith)) ∙ keeps n l

unchecked_free : (has : Op → Bool) (names : ℕ) (plan : List Event) (patterns : List Tree) (place : List ℕ) → ArePatterns has names plan patterns → IsUncheckedAt names patterns place → IsFree has plan place
unchecked_free has names plan patterns place are is arrivals u takes =
    let i = are.instances arrivals takes in
    are.taken (with_part place u arrivals) (record {
      put = instead i.put is.variable u;
      keeps = instead_keeps names i.put is.variable u is.above i.keeps;
      is = ap (with_part place u) i.is ∙ placed i.put is.variable u place patterns is.here is.once;
    })

-- ---- the other way: with an atom that stands nowhere

abbrev mutual
  beyond : Tree → ℕ
  beyond (leaf n) = suc n
  beyond (node o ts) = beyond_all ts

  beyond_all : Trees → ℕ
  beyond_all none = 0
  beyond_all (more t ts) = beyond t + beyond_all ts

abbrev beyond_each : List Tree → ℕ
beyond_each [] = 0
beyond_each (t ∷ ts) = beyond t + beyond_each ts

mutual
  absent : (c : ℕ) (t : Tree) → beyond t ≤ c → count_in c t ≡ 0
  absent c (leaf n) h = none_here c n (λ e. omega arith)
  absent c (node o ts) h = all_absent c ts h

  all_absent : (c : ℕ) (ts : Trees) → beyond_all ts ≤ c → count_in_all c ts ≡ 0
  all_absent c none h = refl
  all_absent c (more t ts) h = omega (arith, absent c t (omega arith), all_absent c ts (omega arith))

each_absent : (c : ℕ) (ts : List Tree) → beyond_each ts ≤ c → count_in_each c ts ≡ 0
each_absent c [] h = refl
each_absent c (t ∷ ts) h = omega (arith, absent c t (omega arith), each_absent c ts (omega arith))

set_got : (ts : List Tree) (i : ℕ) (t v : Tree) → slice_get ts i ≡ Some t → slice_get (slice_set ts i v) i ≡ Some v
set_got [] i t v e = cc
set_got (w ∷ ts) zero t v e = refl
set_got (w ∷ ts) (suc i) t v e = set_got ts i t v e

-- the part that was put there
part_with : (place : List ℕ) (ts : List Tree) (t v : Tree) → part_at place ts ≡ Some t → part_at place (with_part place v ts) ≡ Some v
part_with [] ts t v e = cc
part_with (i ∷ []) ts t v e = set_got ts i t v e
part_with (i ∷ j ∷ js) ts t v e =
    let g = gone_in i j js ts t e in
    let w = with_operands g.0 (with_part (j ∷ js) v (operands g.0)) in
    ap (part_at (i ∷ j ∷ js)) (step_is i j js v ts g.0 g.1) ∙ ap (option_and_then (λ z. part_at (j ∷ js) (operands z))) (set_got ts i g.0 w g.1) ∙ inner g.0 (with_part (j ∷ js) v (operands g.0)) g.2 (part_with (j ∷ js) (operands g.0) t v g.2)
  where
    inner : (y : Tree) (l : List Tree) → part_at (j ∷ js) (operands y) ≡ Some t → part_at (j ∷ js) l ≡ Some v → part_at (j ∷ js) (operands (with_operands y l)) ≡ Some v
    inner (leaf n) l e h = no_part j js e
      where
        no_part : (k : ℕ) (ks : List ℕ) → part_at (k ∷ ks) [] ≡ Some t → part_at (j ∷ js) [] ≡ Some v
        no_part k [] e = cc
        no_part k (q ∷ qs) e = cc
    inner (node o us) l e h = ap (part_at (j ∷ js)) (list_of-trees_of l) ∙ h

-- the part of an instance
part_put : (put : ℕ → Tree) (place : List ℕ) (ts : List Tree) (t : Tree) → part_at place ts ≡ Some t → part_at place (map (put_in put) ts) ≡ Some (put_in put t)
part_put put [] ts t e = cc
part_put put (i ∷ []) ts t e = put_got put ts i t e
part_put put (i ∷ j ∷ js) ts t e =
    let g = gone_in i j js ts t e in
    ap (option_and_then (λ z. part_at (j ∷ js) (operands z))) (put_got put ts i g.0 g.1) ∙ inner g.0 g.2 (part_put put (j ∷ js) (operands g.0) t g.2)
  where
    inner : (y : Tree) → part_at (j ∷ js) (operands y) ≡ Some t → part_at (j ∷ js) (map (put_in put) (operands y)) ≡ Some (put_in put t) → part_at (j ∷ js) (operands (put_in put y)) ≡ Some (put_in put t)
    inner (leaf n) e h = no_part j js e
      where
        no_part : (k : ℕ) (ks : List ℕ) → part_at (k ∷ ks) [] ≡ Some t → part_at (j ∷ js) (operands (put n)) ≡ Some (put_in put t)
        no_part k [] e = cc
        no_part k (q ∷ qs) e = cc
    inner (node o us) e h = ap (part_at (j ∷ js)) (operands_put put o us) ∙ h

-- an atom in place of a variable stands at least as often
module _ (put : ℕ → Tree) (y c : ℕ) (is : put y ≡ leaf c) where
  leaf_up : (n : ℕ) → (n ≡ y) ⊎ (n ≡ y → ⊥) → count_in y (leaf n) ≤ count_in c (put n)
  leaf_up n (inl e) = let a : put n ≡ leaf c = ap put e ∙ is in let b : count_in c (put n) ≡ 1 = ap (count_in c) a ∙ one_here c in omega (arith, b, ap (λ m. count_in y (leaf m)) e, one_here y)
  leaf_up n (inr apart) = omega (arith, none_here y n apart)

  mutual
    count_up : (t : Tree) → count_in y t ≤ count_in c (put_in put t)
    count_up (leaf n) = leaf_up n (cases_eq n y)
    count_up (node o ts) = omega (arith, all_up ts)

    all_up : (ts : Trees) → count_in_all y ts ≤ count_in_all c (trees_of (honest_all terms put ts))
    all_up none = omega arith
    all_up (more t ts) = omega (arith, count_up t, all_up ts)

  each_up : (ts : List Tree) → count_in_each y ts ≤ count_in_each c (map (put_in put) ts)
  each_up [] = omega arith
  each_up (t ∷ ts) = omega (arith, count_up t, each_up ts)

-- and once where it is put at one place alone
count_set : (c : ℕ) (ts : List Tree) (i : ℕ) (v : Tree) → count_in_each c ts ≡ 0 → count_in_each c (slice_set ts i v) ≤ count_in c v
count_set c [] i v gone = omega arith
count_set c (t ∷ ts) zero v gone = omega arith
count_set c (t ∷ ts) (suc i) v gone = omega (arith, count_set c ts i v (omega arith))

count_with : (c : ℕ) (place : List ℕ) (ts : List Tree) → count_in_each c ts ≡ 0 → count_in_each c (with_part place (leaf c) ts) ≤ 1
count_with c [] ts gone = omega arith
count_with c (i ∷ []) ts gone = omega (arith, count_set c ts i (leaf c) gone, one_here c)
count_with c (i ∷ j ∷ js) ts gone = go (slice_get ts i) refl (λ us h. count_with c (j ∷ js) us h)
  where
    inner : (t : Tree) → count_in c t ≡ 0 → count_in_each c (with_part (j ∷ js) (leaf c) (operands t)) ≤ 1 → count_in c (with_operands t (with_part (j ∷ js) (leaf c) (operands t))) ≤ 1
    inner (leaf n) z h = omega arith
    inner (node o us) z h = let l = with_part (j ∷ js) (leaf c) (list_of us) in omega (arith, h, count_list c (trees_of l), ap (count_in_each c) (list_of-trees_of l))

    go : (o : Option Tree) → slice_get ts i ≡ o → ((us : List Tree) → count_in_each c us ≡ 0 → count_in_each c (with_part (j ∷ js) (leaf c) us) ≤ 1) → count_in_each c (set_if ts i (option_map (λ t. with_operands t (with_part (j ∷ js) (leaf c) (operands t))) o)) ≤ 1
    go None at deeper = omega (arith, gone)
    go (Some t) at deeper =
        let z : count_in c t ≡ 0 = omega (arith, at_most c ts i t at, gone) in
        let w = with_operands t (with_part (j ∷ js) (leaf c) (operands t)) in
        omega (arith, count_set c ts i w gone, inner t z (deeper (operands t) (omega (arith, in_operands c t, z))))

free_unchecked : (has : Op → Bool) (names : ℕ) (plan : List Event) (patterns : List Tree) (place : List ℕ) (t : Tree) → ArePatterns has names plan patterns → part_at place patterns ≡ Some t → IsFree has plan place → IsUncheckedAt names patterns place
free_unchecked has names plan patterns place t are at free =
    let c = names + beyond_each patterns in
    let own = are.taken patterns (record { put = leaf; keeps = λ n h. refl; is = sym (each_itself patterns) }) in
    let i = are.instances (with_part place (leaf c) patterns) (free patterns (leaf c) own) in
    let a = part_with place patterns t (leaf c) at in
    let b = part_put i.put place patterns t at in
    let d = ap (part_at place) i.is in
    let same : put_in i.put t ≡ leaf c = cc in
    let gone = each_absent c patterns (omega arith) in
    let few : count_in_each c (map (put_in i.put) patterns) ≤ 1 = subst (λ l. count_in_each c l ≤ 1) i.is (count_with c place patterns gone) in
    by_term t at i.put same i.keeps few
  where
    above : (n m : ℕ) → (m ≤ n) ⊎ (n < m)
    above n zero = inl (omega arith)
    above zero (suc m) = inr (omega arith)
    above (suc n) (suc m) = ⊎_elim (λ l. inl (omega arith)) (λ l. inr (omega arith)) (above n m)

    is_variable : (y : ℕ) (put : ℕ → Tree) → KeepsNames names put → put y ≡ leaf (names + beyond_each patterns) → (names ≤ y) ⊎ (y < names) → names ≤ y
    is_variable y put keeps e (inl l) = l
    is_variable y put keeps e (inr l) = let q = keeps y l in let z : y ≡ names + beyond_each patterns = cc in omega arith

    by_term : (t : Tree) → part_at place patterns ≡ Some t → (put : ℕ → Tree) → put_in put t ≡ leaf (names + beyond_each patterns) → KeepsNames names put → count_in_each (names + beyond_each patterns) (map (put_in put) patterns) ≤ 1 → IsUncheckedAt names patterns place
    by_term (node o us) at put e keeps few = cc
    by_term (leaf y) at put e keeps few = record {
      variable = y;
      above = is_variable y put keeps e (above y names);
      here = at;
      once = omega (arith, counted y place patterns at, each_up put y (names + beyond_each patterns) e patterns, few);
    }

pub free_is_unchecked : FreeIsUnchecked
free_is_unchecked has names plan patterns place t are at = (free_unchecked has names plan patterns place t are at, unchecked_free has names plan patterns place are)
