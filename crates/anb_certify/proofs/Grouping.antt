-- Registers by the first of their term.
use Rattle.std.proofs.Common.{◌≡◌, ℕ, zero, suc, ◌+◌, ◌<◌, ◌≤◌, List, [], ◌∷◌, ◌++◌, length, map, set, get_or, Option, Some, None, refl, sym, ap, ◌∙◌, subst, inl, inr, ◌⊎◌, ⊎_elim, arith}
use Rattle.std.specs.Prelude.{slice_get, unwrap_or}
use Rattle.anb_lemmas.proofs.Numbers.{below_or_it}
use Rattle.anb_lemmas.proofs.Lists.{got_within}
use Rattle.anb_term.specs.Tree.{Tree, leaf}
use Rattle.anb_term.proofs.Lists.{slice_get-there, slice_get-last, set-same, set-at}
use Rattle.anb_plays.specs.Codes.{Work}
use Rattle.anb_intern.specs.declared.node.NodeId.{NodeId}
use Rattle.anb_intern.specs.Nodes.{operands_at, AreUnder, AreDistinct}
use Rattle.anb_intern.proofs.Nodes.{operands_long}
use Rattle.anb_certify.specs.declared.works.Done.{Done}
use Rattle.anb_certify.specs.Tied.{Did}
use Rattle.anb_certify.specs.Works.{did_of, work_of, AreTold}
use Rattle.anb_certify.specs.Numbered.{IsFirst, AreFirsts, AreSeen, AreGrouped}

pub did_there : (done : List Done) (i : ℕ) (d : Done) → slice_get done i ≡ Some d → Did (map did_of done) d.at (work_of d.job)
did_there [] i d e = cc
did_there (x ∷ done) zero d e = let s : x ≡ d = cc in inl (ap (λ (z : Done). z.at) s, ap (λ (z : Done). work_of z.job) s)
did_there (x ∷ done) (suc i) d e = inr (did_there done i d e)

abbrev none_yet : Option ℕ
none_yet = None

id_is : (a b : NodeId) → a.0 ≡ b.0 → a ≡ b
id_is a b e = let R : ℕ → NodeId = λ n. record { 0 = n } in ap R e

order : (i k : ℕ) → (i < k) ⊎ ((k < i) ⊎ (i ≡ k))
order zero zero = inr (inr refl)
order zero (suc k) = inl (omega arith)
order (suc i) zero = inr (inl (omega arith))
order (suc i) (suc k) = ⊎_elim (λ a. inl (omega (arith, a))) (λ b. inr (⊎_elim (λ c. inl (omega (arith, c))) (λ d. inr (ap suc d)) b)) (order i k)

-- ---- one register more

module _ (ids : List NodeId) (n : ℕ) (id : NodeId) (seen : List (Option ℕ)) (firsts : List ℕ) (here : slice_get ids n ≡ Some id) (long : length firsts ≡ n) (h : AreSeen ids n seen firsts) where
  Is : ℕ → Type 0
  Is first = (first < n + 1) × (slice_get ids first ≡ Some id) × ((i : ℕ) (j : NodeId) → slice_get ids i ≡ Some j → j.0 ≡ id.0 → i < first → ⊥)

  was_seen : (f : ℕ) → slice_get seen id.0 ≡ Some (Some f) → Is f
  unfolding Is
  was_seen f e = let s = h.some id.0 f e in (omega (arith, s.3), s.1 ∙ ap Some (id_is s.0 id s.2), λ i j at same l. h.least id.0 f i j e at same l)

  is_new : slice_get seen id.0 ≡ Some None → Is n
  unfolding Is
  is_new e = (omega arith, here, λ i j at same l. h.none id.0 i j e at same l)

  further : (first : ℕ) → (o : Option ℕ) → slice_get seen id.0 ≡ Some o → Is first → AreSeen ids (n + 1) (set seen id.0 (Some first)) (firsts ++ first ∷ [])
  unfolding Is
  further first o at is = record {
    some = λ k f e. ⊎_elim (λ a. (let s : Some f ≡ Some first = a.1 in let g : first ≡ f = cc in (id, subst (λ z. slice_get ids z ≡ Some id) g is.1, sym a.0, subst (λ z. z < n + 1) g is.0)))
        (λ b. let s = h.some k f b in (s.0, s.1, s.2, omega (arith, s.3))) (set-at seen id.0 k (Some first) (Some f) e);
    least = λ k f i j e there same l. ⊎_elim (λ a. (let s : Some f ≡ Some first = a.1 in let g : f ≡ first = cc in is.2 i j there (same ∙ a.0) (subst (λ z. i < z) g l)))
        (λ b. h.least k f i j b there same l) (set-at seen id.0 k (Some first) (Some f) e);
    none = λ k i j e there same l. ⊎_elim (λ a. (let s : none_yet ≡ Some first = a.1 in no_first first s))
        (λ b. ⊎_elim (λ less. h.none k i j b there same less) (λ s. (let g : slice_get ids n ≡ Some j = subst (λ z. slice_get ids z ≡ Some j) (sym s) there in
        let q : Some id ≡ Some j = sym here ∙ g in let r : id ≡ j = cc in let t : id.0 ≡ k = ap (λ (z : NodeId). z.0) r ∙ same in
        let u : slice_get (set seen id.0 (Some first)) k ≡ Some (Some first) = subst (λ z. slice_get (set seen id.0 (Some first)) z ≡ Some (Some first)) t (set-same seen id.0 (Some first) o at) in
        let v : Some none_yet ≡ Some (Some first) = sym e ∙ u in no_first first (let w : none_yet ≡ Some first = cc in w))) (below_or_it i n l))
        (set-at seen id.0 k (Some first) none_yet e);
    each = λ i f e. ⊎_elim (λ a. h.each i f a) (λ b. first_is i f (b.0 ∙ long) b.1) (slice_get-last firsts first f i e);
  } where
    no_first : (f : ℕ) → none_yet ≡ Some f → ⊥
    no_first f e = cc

    first_is : (i f : ℕ) → i ≡ n → first ≡ f → IsFirst ids i f
    first_is i f e g =
        let F : IsFirst ids n first = record { here = got_within ids first id is.1; same = is.1 ∙ sym here; least = λ k s l. is.2 k id (s ∙ here) refl l } in
        subst (λ z. IsFirst ids z f) (sym e) (subst (λ z. IsFirst ids n z) g F)

  pub seen_next : (first : ℕ) (o : Option ℕ) → slice_get seen id.0 ≡ Some o → (o ≡ Some first) ⊎ ((o ≡ None) × (first ≡ n)) → AreSeen ids (n + 1) (set seen id.0 (Some first)) (firsts ++ first ∷ [])
  seen_next first o at (inl e) = further first o at (was_seen first (at ∙ ap Some e))
  seen_next first o at (inr e) = further first o at (subst Is (sym e.1) (is_new (at ∙ ap Some e.0)))

-- ---- terms

operand_at : (ts : List Tree) (ids : List NodeId) (i : ℕ) (id : NodeId) → slice_get ids i ≡ Some id → slice_get (operands_at ts ids) i ≡ Some (unwrap_or (slice_get ts id.0) (leaf 0))
operand_at ts [] i id e = cc
operand_at ts (j ∷ ids) zero id e = let s : j ≡ id = cc in ap (λ (z : NodeId). Some (unwrap_or (slice_get ts z.0) (leaf 0))) s
operand_at ts (j ∷ ids) (suc i) id e = operand_at ts ids i id e

pub under_there : (m : ℕ) (ids : List NodeId) (i : ℕ) (id : NodeId) → AreUnder m ids → slice_get ids i ≡ Some id → id.0 < m
under_there m [] i id u e = cc
under_there m (j ∷ ids) zero id u e = let s : j ≡ id = cc in subst (λ (z : NodeId). z.0 < m) s u.0
under_there m (j ∷ ids) (suc i) id u e = under_there m ids i id u.1 e

-- the number and the term of a register
pub at_register : (ts : List Tree) (ids : List NodeId) (i : ℕ) (id : NodeId) (t : Tree) → slice_get ids i ≡ Some id → slice_get ts id.0 ≡ Some t → slice_get (operands_at ts ids) i ≡ Some t
at_register ts ids i id t e f = operand_at ts ids i id e ∙ ap (λ o. Some (unwrap_or o (leaf 0))) f

module _ (ts : List Tree) (ids : List NodeId) (under : AreUnder (length ts) ids) (distinct : AreDistinct ts) where
  long : length (operands_at ts ids) ≡ length ids
  long = operands_long ts ids

  -- registers of one term have one number
  pub one_number : (i k : ℕ) (a b : NodeId) → slice_get ids i ≡ Some a → slice_get ids k ≡ Some b → slice_get (operands_at ts ids) i ≡ slice_get (operands_at ts ids) k → a ≡ b
  one_number i k a b ea eb e =
      let x = slice_get-there ts a.0 (under_there (length ts) ids i a under ea) in
      let y = slice_get-there ts b.0 (under_there (length ts) ids k b under eb) in
      let f : Some x.0 ≡ Some y.0 = sym (at_register ts ids i a x.0 ea x.1) ∙ e ∙ at_register ts ids k b y.0 eb y.1 in
      let s : x.0 ≡ y.0 = cc in
      id_is a b (distinct a.0 b.0 x.0 x.1 (y.1 ∙ ap Some (sym s)))

  none_past : {A : Type 0} (xs : List A) (i : ℕ) → slice_get xs i ≡ None → length xs ≤ i
  none_past [] i e = omega arith
  none_past (x ∷ xs) zero e = cc
  none_past (x ∷ xs) (suc i) e = omega (arith, none_past xs i e)

  past_none : {A : Type 0} (xs : List A) (i : ℕ) → length xs ≤ i → slice_get xs i ≡ None
  past_none [] i l = refl
  past_none (x ∷ xs) zero l = absurd (omega (arith, l))
  past_none (x ∷ xs) (suc i) l = past_none xs i (omega (arith, l))

  pub grouped : (did : List (ℕ × Work)) (firsts : List ℕ) → AreTold (operands_at ts ids) did → AreFirsts ids firsts → AreGrouped (operands_at ts ids) did firsts
  grouped did firsts told are = record {
    told = told;
    long = are.long ∙ sym long;
    there = λ i f e. there_is i f (are.each i f e);
    alike = λ i k e. alike_is i k (slice_get (operands_at ts ids) i) refl e;
    least = λ i f e. let x = are.each i f e in not_less i f (λ l. x.least i refl l);
  } where
    not_less : (i f : ℕ) → (i < f → ⊥) → f < suc i
    not_less i f h = ⊎_elim (λ a. absurd (h a)) (λ b. ⊎_elim (λ c. omega (arith, c)) (λ d. omega (arith, d)) b) (order i f)

    there_is : (i f : ℕ) → IsFirst ids i f → slice_get (operands_at ts ids) f ≡ slice_get (operands_at ts ids) i
    there_is i f x =
        let a = slice_get-there ids f x.here in
        operand_at ts ids f a.0 a.1 ∙ sym (operand_at ts ids i a.0 (sym x.same ∙ a.1))

    one_first : (i k f g : ℕ) → slice_get ids i ≡ slice_get ids k → IsFirst ids i f → IsFirst ids k g → f ≡ g
    one_first i k f g e x y =
        ⊎_elim (λ a. absurd (y.least f (x.same ∙ e) a)) (λ b. ⊎_elim (λ c. absurd (x.least g (y.same ∙ sym e) c)) (λ d. d) b) (order f g)

    alike_is : (i k : ℕ) (o : Option Tree) → slice_get (operands_at ts ids) i ≡ o → slice_get (operands_at ts ids) i ≡ slice_get (operands_at ts ids) k → slice_get firsts i ≡ slice_get firsts k
    alike_is i k None e f =
        let a = none_past (operands_at ts ids) i e in
        let b = none_past (operands_at ts ids) k (sym f ∙ e) in
        past_none firsts i (omega (arith, a, long, are.long)) ∙ sym (past_none firsts k (omega (arith, b, long, are.long)))
    alike_is i k (Some t) e f =
        let li = got_within (operands_at ts ids) i t e in
        let lk = got_within (operands_at ts ids) k t (sym f ∙ e) in
        let a = slice_get-there ids i (omega (arith, li, long)) in
        let b = slice_get-there ids k (omega (arith, lk, long)) in
        let same = one_number i k a.0 b.0 a.1 b.1 f in
        let x = slice_get-there firsts i (omega (arith, li, long, are.long)) in
        let y = slice_get-there firsts k (omega (arith, lk, long, are.long)) in
        let one = one_first i k x.0 y.0 (a.1 ∙ ap Some same ∙ sym b.1) (are.each i x.0 x.1) (are.each k y.0 y.1) in
        x.1 ∙ ap Some one ∙ sym y.1

pub set_long : {A : Type 0} (xs : List A) (i : ℕ) (x : A) → length (set xs i x) ≡ length xs
set_long [] i x = refl
set_long (y ∷ xs) zero x = refl
set_long (y ∷ xs) (suc i) x = ap suc (set_long xs i x)

pub get_here : {A : Type 0} (xs : List A) (i : ℕ) (d : A) → i < length xs → slice_get xs i ≡ Some (get_or xs i d)
get_here [] i d l = absurd (omega (arith, l))
get_here (x ∷ xs) zero d l = refl
get_here (x ∷ xs) (suc i) d l = get_here xs i d (omega (arith, l))
