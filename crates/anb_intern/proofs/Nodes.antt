-- The terms of a pool's nodes.
use Rattle.std.proofs.Common.{◌≡◌, ℕ, zero, suc, ◌+◌, ◌<◌, ◌≤◌, List, [], ◌∷◌, ◌++◌, length, take, drop, Bool, true, false, ◌||◌, if◌then◌else◌, Some, refl, sym, ap, ◌∙◌, subst, arith, inl, inr, ◌⊎◌, ⊎_elim, append_assoc, length-append}
use Rattle.std.specs.Prelude.{slice_get, unwrap_or}
use Rattle.std.specs.List.{AllByRecursion, list_any}
use Rattle.std.proofs.lemmas.List.{append-nil}
use Rattle.anb_lemmas.proofs.Lists.{get_last, got_within, get_front}
use Rattle.anb_term.specs.declared.term.Op.{Op}
use Rattle.anb_term.specs.Tree.{Tree, leaf, node, Trees, trees_of, list_of}
use Rattle.anb_term.specs.TreeSame.{list_of-trees_of}
use Rattle.anb_term.proofs.Lists.{slice_get-append, slice_get-there, slice_get-last, take-front}
use Rattle.anb_intern.specs.declared.node.NodeId.{NodeId}
use Rattle.anb_intern.specs.declared.node.Node.{Node}
use Rattle.anb_intern.specs.declared.node.Node.TheVariants.{Atom, Apply}
use Rattle.anb_intern.specs.Nodes.{operands_at, tree_at, AreUnder, IsOver, AreDistinct, Below, AreBefore, HasPut}
use Rattle.anb_intern.specs.Pools.{trees_after, trees_at, atom, apply, view, IsPool}

-- the terms before stay
pub after_is : (ts : List Tree) (ks : List Node) → (more : List Tree) × (trees_after ts ks ≡ ts ++ more) × (length more ≡ length ks)
after_is ts [] = ([], sym (append-nil ts), refl)
after_is ts (k ∷ ks) =
    let r = after_is (ts ++ tree_at ts k ∷ []) ks in
    (tree_at ts k ∷ r.0, r.1 ∙ append_assoc ts (tree_at ts k ∷ []) r.0, ap suc r.2)

pub length_after : (ts : List Tree) (ks : List Node) → length (trees_after ts ks) ≡ length ts + length ks
length_after ts ks = let r = after_is ts ks in omega (arith, ap length r.1, length-append ts r.0, r.2)

pub length_at : (ks : List Node) → length (trees_at ks) ≡ length ks
length_at ks = omega (arith, length_after [] ks)

pub after_more : (ts : List Tree) (ks ls : List Node) → trees_after ts (ks ++ ls) ≡ trees_after (trees_after ts ks) ls
after_more ts [] ls = refl
after_more ts (k ∷ ks) ls = after_more (ts ++ tree_at ts k ∷ []) ks ls

pub trees_take : (ks : List Node) (n : ℕ) → n ≤ length ks → trees_at (take n ks) ≡ take n (trees_at ks)
trees_take ks n h =
    let split = ap trees_at (sym (take-drop ks n)) ∙ after_more [] (take n ks) (drop n ks) in
    let r = after_is (trees_at (take n ks)) (drop n ks) in
    let long : length (trees_at (take n ks)) ≡ n = omega (arith, length_at (take n ks), length-take ks n, h) in
    sym (ap (take n) (split ∙ r.1) ∙ ap (λ m. take m (trees_at (take n ks) ++ r.0)) (sym long) ∙ take-front (trees_at (take n ks)) r.0 (length (trees_at (take n ks))) (omega arith) ∙ take-all (trees_at (take n ks)))
  where
    take-drop : {A : Type 0} (xs : List A) (n : ℕ) → take n xs ++ drop n xs ≡ xs
    take-drop xs zero = refl
    take-drop [] (suc n) = refl
    take-drop (x ∷ xs) (suc n) = ap (λ l. x ∷ l) (take-drop xs n)

    length-take : {A : Type 0} (xs : List A) (n : ℕ) → n ≤ length xs → length (take n xs) ≡ n
    length-take xs zero h = refl
    length-take [] (suc n) h = absurd (omega arith)
    length-take (x ∷ xs) (suc n) h = ap suc (length-take xs n (omega arith))

    take-all : {A : Type 0} (xs : List A) → take (length xs) xs ≡ xs
    take-all [] = refl
    take-all (x ∷ xs) = ap (λ l. x ∷ l) (take-all xs)

-- a node over the first terms has its term whatever comes after
pub operands_stay : (ts us : List Tree) (is : List NodeId) → AreUnder (length ts) is → operands_at (ts ++ us) is ≡ operands_at ts is
operands_stay ts us [] h = refl
operands_stay ts us (i ∷ is) h = ap (λ o. unwrap_or o (leaf 0) ∷ operands_at (ts ++ us) is) (get_front ts us i.0 h.0) ∙ ap (λ l. unwrap_or (slice_get ts i.0) (leaf 0) ∷ l) (operands_stay ts us is h.1)

pub tree_stays : (ts us : List Tree) (k : Node) → IsOver (length ts) k → tree_at (ts ++ us) k ≡ tree_at ts k
tree_stays ts us (Atom n) h = refl
tree_stays ts us (Apply o ids) h = ap (λ l. node o (trees_of l)) (operands_stay ts us ids.items h)

-- the term with a number
stands_after : (ts : List Tree) (ks : List Node) (i : ℕ) (k : Node) → ((j : ℕ) (l : Node) → slice_get ks j ≡ Some l → IsOver (length ts + j) l) → slice_get ks i ≡ Some k
    → slice_get (trees_after ts ks) (length ts + i) ≡ Some (tree_at (trees_after ts ks) k)
stands_after ts [] i k over at = cc
stands_after ts (l ∷ ks) zero k over at =
    let s : l ≡ k = cc in
    let r = after_is (ts ++ tree_at ts l ∷ []) ks in
    let here : slice_get (trees_after (ts ++ tree_at ts l ∷ []) ks) (length ts) ≡ Some (tree_at ts l) = ap (λ x. slice_get x (length ts)) r.1 ∙ slice_get-append (ts ++ tree_at ts l ∷ []) r.0 (length ts) (tree_at ts l) (get_last ts (tree_at ts l)) in
    let whole : trees_after (ts ++ tree_at ts l ∷ []) ks ≡ ts ++ (tree_at ts l ∷ r.0) = r.1 ∙ append_assoc ts (tree_at ts l ∷ []) r.0 in
    let same : tree_at (trees_after (ts ++ tree_at ts l ∷ []) ks) l ≡ tree_at ts l = ap (λ x. tree_at x l) whole ∙ tree_stays ts (tree_at ts l ∷ r.0) l (subst (λ n. IsOver n l) (omega arith) (over 0 l refl)) in
    subst (λ n. slice_get (trees_after ts (l ∷ ks)) n ≡ Some (tree_at (trees_after ts (l ∷ ks)) k)) (omega arith) (here ∙ ap Some (sym same) ∙ ap (λ x. Some (tree_at (trees_after (ts ++ tree_at ts l ∷ []) ks) x)) s)
stands_after ts (l ∷ ks) (suc i) k over at =
    let n : length (ts ++ tree_at ts l ∷ []) ≡ suc (length ts) = omega (arith, length-append ts (tree_at ts l ∷ [])) in
    let h = stands_after (ts ++ tree_at ts l ∷ []) ks i k (λ j m e. subst (λ x. IsOver x m) (omega (arith, n)) (over (suc j) m e)) at in
    subst (λ x. slice_get (trees_after ts (l ∷ ks)) x ≡ Some (tree_at (trees_after ts (l ∷ ks)) k)) (omega (arith, n)) h

-- one view, one term
operands_view : (ts : List Tree) (k l : Node) → view k ≡ view l → tree_at ts k ≡ tree_at ts l
operands_view ts (Atom m) (Atom n) e = let s : m ≡ n = cc in ap leaf s
operands_view ts (Atom m) (Apply p js) e = cc
operands_view ts (Apply o is) (Atom n) e = cc
operands_view ts (Apply o is) (Apply p js) e =
    let s : o ≡ p = cc in
    let t : is.items ≡ js.items = cc in
    ap (λ q. node q (trees_of (operands_at ts is.items))) s ∙ ap (λ l. node p (trees_of (operands_at ts l))) t

pub one_tree : (ts : List Tree) (k l : Node) → view k ≡ view l → tree_at ts k ≡ tree_at ts l
one_tree ts k l e = operands_view ts k l e

pub one_over : (n : ℕ) (k l : Node) → view k ≡ view l → IsOver n k → IsOver n l
one_over n (Atom a) (Atom b) e h = tt
one_over n (Atom a) (Apply p js) e h = cc
one_over n (Apply o is) (Atom b) e h = cc
one_over n (Apply o is) (Apply p js) e h = let t : is.items ≡ js.items = cc in subst (AreUnder n) t h

pub under_more : (m n : ℕ) (is : List NodeId) → m ≤ n → AreUnder m is → AreUnder n is
under_more m n [] h u = tt
under_more m n (i ∷ is) h u = (omega (arith, u.0, h), under_more m n is h u.1)

pub over_more : (m n : ℕ) (k : Node) → m ≤ n → IsOver m k → IsOver n k
over_more m n (Atom a) h o = tt
over_more m n (Apply p is) h o = under_more m n is.items h o

module _ (ks : List Node) (pool : IsPool ks) where
  pub stands : (i : ℕ) (k : Node) → slice_get ks i ≡ Some k → slice_get (trees_at ks) i ≡ Some (tree_at (trees_at ks) k)
  stands i k at =
      let over : (j : ℕ) (l : Node) → slice_get ks j ≡ Some l → IsOver (0 + j) l = λ j l e. subst (λ n. IsOver n l) (omega arith) (pool.over j l e) in
      let h : slice_get (trees_at ks) (0 + i) ≡ Some (tree_at (trees_at ks) k) = stands_after [] ks i k over at in
      subst (λ n. slice_get (trees_at ks) n ≡ Some (tree_at (trees_at ks) k)) (omega arith) h

  node_there : (i : ℕ) (t : Tree) → slice_get (trees_at ks) i ≡ Some t → (k : Node) × (slice_get ks i ≡ Some k) × (tree_at (trees_at ks) k ≡ t)
  node_there i t at =
      let there = slice_get-there ks i (omega (arith, got_within (trees_at ks) i t at, length_at ks)) in
      let s = stands i there.0 there.1 in
      (there.0, there.1, cc)

  one_id : (a b : NodeId) → a.0 ≡ b.0 → a ≡ b
  one_id a b e = ap (λ n. record { 0 = n }) e

  operand : (n : ℕ) (i : NodeId) → i.0 < length ks → (t : Tree) × (slice_get (trees_at ks) i.0 ≡ Some t) × (unwrap_or (slice_get (trees_at ks) i.0) (leaf 0) ≡ t)
  operand n i h =
      let there = slice_get-there (trees_at ks) i.0 (omega (arith, h, length_at ks)) in
      (there.0, there.1, ap (λ o. unwrap_or o (leaf 0)) there.1)

  abbrev IsOne : ℕ → Type 0
  IsOne n = (a b : ℕ) (t : Tree) → a < n → slice_get (trees_at ks) a ≡ Some t → slice_get (trees_at ks) b ≡ Some t → a ≡ b

  one_list : (n : ℕ) (is js : List NodeId) → n ≤ length ks → IsOne n → AreUnder n is → AreUnder (length ks) js → operands_at (trees_at ks) is ≡ operands_at (trees_at ks) js → is ≡ js
  one_list n [] [] m one ha hb e = refl
  one_list n [] (j ∷ js) m one ha hb e = cc
  one_list n (i ∷ is) [] m one ha hb e = cc
  one_list n (i ∷ is) (j ∷ js) m one ha hb e =
      let x = operand 0 i (omega (arith, ha.0, m)) in
      let y = operand 0 j hb.0 in
      let heads : unwrap_or (slice_get (trees_at ks) i.0) (leaf 0) ≡ unwrap_or (slice_get (trees_at ks) j.0) (leaf 0) = cc in
      let rest : operands_at (trees_at ks) is ≡ operands_at (trees_at ks) js = cc in
      let t : y.0 ≡ x.0 = sym y.2 ∙ sym heads ∙ x.2 in
      let same = one_id i j (one i.0 j.0 x.0 ha.0 x.1 (y.1 ∙ ap Some t)) in
      ap (λ a. a ∷ is) same ∙ ap (λ l. j ∷ l) (one_list n is js m one ha.1 hb.1 rest)

  one_view : (n : ℕ) (k l : Node) → n ≤ length ks → IsOne n → IsOver n k → IsOver (length ks) l → tree_at (trees_at ks) k ≡ tree_at (trees_at ks) l → view k ≡ view l
  one_view n (Atom a) (Atom b) m one ha hb e = let s : a ≡ b = cc in ap atom s
  one_view n (Atom a) (Apply p js) m one ha hb e = cc
  one_view n (Apply o is) (Atom b) m one ha hb e = cc
  one_view n (Apply o is) (Apply p js) m one ha hb e =
      let s : o ≡ p = cc in
      let t : trees_of (operands_at (trees_at ks) is.items) ≡ trees_of (operands_at (trees_at ks) js.items) = cc in
      let u = sym (list_of-trees_of (operands_at (trees_at ks) is.items)) ∙ ap list_of t ∙ list_of-trees_of (operands_at (trees_at ks) js.items) in
      let v = one_list n is.items js.items m one ha hb u in
      ap (λ q. apply q is.items) s ∙ ap (apply p) v

  distinct_below : (n : ℕ) → n ≤ length ks → IsOne n
  distinct_below zero m i j t h a b = absurd (omega arith)
  distinct_below (suc n) m i j t h a b =
      let k = node_there i t a in
      let l = node_there j t b in
      let over_k = over_more i n k.0 (omega arith) (pool.over i k.0 k.1) in
      let within = got_within ks j l.0 l.1 in
      let over_l = over_more j (length ks) l.0 (omega (arith, within)) (pool.over j l.0 l.1) in
      pool.once i j k.0 l.0 k.1 l.1 (one_view n k.0 l.0 (omega (arith, m)) (distinct_below n (omega (arith, m))) over_k over_l (k.2 ∙ sym l.2))

  pub distinct : AreDistinct (trees_at ks)
  distinct i j t a b = distinct_below (length ks) (omega arith) i j t (omega (arith, got_within (trees_at ks) i t a, length_at ks)) a b

  before_all : (i : ℕ) (is : List NodeId) → i < length ks → AreUnder i is → AllByRecursion (Below (trees_at ks) i) (operands_at (trees_at ks) is)
  before_all i [] h u = tt
  before_all i (j ∷ is) h u =
      let x = operand 0 j (omega (arith, u.0, h)) in
      (subst (Below (trees_at ks) i) (sym x.2) (j.0, u.0, x.1), before_all i is h u.1)

  before_node : (i : ℕ) (k : Node) (o : Op) (us : Trees) → i < length ks → IsOver i k → tree_at (trees_at ks) k ≡ node o us → AllByRecursion (Below (trees_at ks) i) (list_of us)
  before_node i (Atom n) o us h over e = cc
  before_node i (Apply p ids) o us h over e =
      let s : trees_of (operands_at (trees_at ks) ids.items) ≡ us = cc in
      subst (λ l. AllByRecursion (Below (trees_at ks) i) l) (sym (list_of-trees_of (operands_at (trees_at ks) ids.items)) ∙ ap list_of s) (before_all i ids.items h over)

  pub before : AreBefore (trees_at ks)
  before i o us at =
      let k = node_there i (node o us) at in
      before_node i k.0 o us (got_within ks i k.0 k.1) (pool.over i k.0 k.1) k.2

or_left : (a b : Bool) → (a || b) ≡ false → a ≡ false
or_left true b e = e
or_left false b e = refl

or_right : (a b : Bool) → (a || b) ≡ false → b ≡ false
or_right true b e = cc
or_right false b e = e

-- one more node
found_not : (f : Node → Bool) (ks : List Node) (i : ℕ) (k : Node) → list_any f ks ≡ false → slice_get ks i ≡ Some k → f k ≡ false
found_not f [] i k e at = cc
found_not f (l ∷ ks) zero k e at = let s : l ≡ k = cc in ap f (sym s) ∙ or_left (f l) (list_any f ks) e
found_not f (l ∷ ks) (suc i) k e at = found_not f ks i k (or_right (f l) (list_any f ks) e) at

module _ (ks : List Node) (k : Node) (f : Node → Bool) (seen : (l : Node) → view k ≡ view l → f l ≡ true) where
  abbrev pub keys_with : Bool → List Node
  keys_with b = if b then ks else ks ++ k ∷ []

  with_pool : (b : Bool) → list_any f ks ≡ b → IsPool ks → IsOver (length (trees_at ks)) k → length (trees_at ks) < 4294967295 → IsPool (keys_with b)
  with_pool true e pool over few = pool
  with_pool false e pool over few = record {
    over = λ i l at. ⊎_elim (λ old. pool.over i l old) (λ h. subst (IsOver i) h.1 (subst (λ n. IsOver n k) (length_at ks ∙ sym h.0) over)) (slice_get-last ks k l i at);
    once = λ i j l m at at' same. ⊎_elim
        (λ old. ⊎_elim
        (λ old'. pool.once i j l m old old' same)
        (λ h'. let no = found_not f ks i l e old in let yes = seen l (ap view h'.1 ∙ sym same) in cc)
        (slice_get-last ks k m j at'))
        (λ h. ⊎_elim
        (λ old'. let no = found_not f ks j m e old' in let yes = seen m (ap view h.1 ∙ same) in cc)
        (λ h'. h.0 ∙ sym h'.0)
        (slice_get-last ks k m j at'))
        (slice_get-last ks k l i at);
    few = omega (arith, length-append ks (k ∷ []), length_at ks, few);
  }

  with_put : (b : Bool) → HasPut (trees_at ks) (tree_at (trees_at ks) k) (trees_at (keys_with b))
  with_put true = inl refl
  with_put false = inr (after_more [] ks (k ∷ []))

  pub put_pool : IsPool ks → IsOver (length (trees_at ks)) k → length (trees_at ks) < 4294967295 → IsPool (keys_with (list_any f ks))
  put_pool = with_pool (list_any f ks) refl

  pub put_put : HasPut (trees_at ks) (tree_at (trees_at ks) k) (trees_at (keys_with (list_any f ks)))
  put_put = with_put (list_any f ks)

-- what was put stands there
pub put_stands : (ks ls : List Node) (k l : Node) (i : ℕ) → IsPool ls → IsOver (length (trees_at ks)) k → HasPut (trees_at ks) (tree_at (trees_at ks) k) (trees_at ls)
    → slice_get ls i ≡ Some l → view k ≡ view l → slice_get (trees_at ls) i ≡ Some (tree_at (trees_at ks) k)
put_stands ks ls k l i pool over put at same = stands ls pool i l at ∙ ap Some (sym (one_tree (trees_at ls) k l same)) ∙ ap Some (stays put)
  where
    stays : HasPut (trees_at ks) (tree_at (trees_at ks) k) (trees_at ls) → tree_at (trees_at ls) k ≡ tree_at (trees_at ks) k
    stays (inl h) = ap (λ ts. tree_at ts k) h
    stays (inr h) = ap (λ ts. tree_at ts k) h ∙ tree_stays (trees_at ks) (tree_at (trees_at ks) k ∷ []) k over

-- the first nodes
pub cut_pool : (ks : List Node) (n : ℕ) → IsPool ks → IsPool (take n ks)
cut_pool ks n pool = record {
  over = λ i k at. pool.over i k (taken ks n i k at);
  once = λ i j k l at at' same. pool.once i j k l (taken ks n i k at) (taken ks n j l at') same;
  few = omega (arith, pool.few, short ks n);
}
  where
    taken : {A : Type 0} (xs : List A) (n i : ℕ) (x : A) → slice_get (take n xs) i ≡ Some x → slice_get xs i ≡ Some x
    taken xs zero i x e = cc
    taken [] (suc n) i x e = cc
    taken (y ∷ xs) (suc n) zero x e = e
    taken (y ∷ xs) (suc n) (suc i) x e = taken xs n i x e

    short : {A : Type 0} (xs : List A) (n : ℕ) → length (take n xs) ≤ length xs
    short xs zero = omega arith
    short [] (suc n) = omega arith
    short (x ∷ xs) (suc n) = omega (arith, short xs n)

-- a node that is found nowhere
pub not_found : (ks : List Node) (k : Node) (i : ℕ) (f : Node → Bool) → IsPool ks → ((l : Node) → view k ≡ view l → f l ≡ true) → list_any f ks ≡ false
    → IsOver (length (trees_at ks)) k → slice_get (trees_at ks) i ≡ Some (tree_at (trees_at ks) k) → ⊥
not_found ks k i f pool seen none over at =
    let l = node_there ks pool i (tree_at (trees_at ks) k) at in
    let within = got_within ks i l.0 l.1 in
    let one = one_view ks pool (length ks) l.0 k (omega arith) (distinct_below ks pool (length ks) (omega arith)) (over_more i (length ks) l.0 (omega (arith, within)) (pool.over i l.0 l.1)) (subst (λ n. IsOver n k) (length_at ks) over) l.2 in
    let yes = seen l.0 (sym one) in
    let no = found_not f ks i l.0 none l.1 in
    cc

-- a node that is found at a place
pub found_there : (ks : List Node) (k : Node) (i : ℕ) (l : Node) → IsPool ks → slice_get ks i ≡ Some l → view k ≡ view l
    → IsOver (length (trees_at ks)) k × (slice_get (trees_at ks) i ≡ Some (tree_at (trees_at ks) k))
found_there ks k i l pool at same =
    let within = got_within ks i l at in
    let over = one_over (length (trees_at ks)) l k (sym same) (over_more i (length (trees_at ks)) l (omega (arith, within, length_at ks)) (pool.over i l at)) in
    (over, stands ks pool i l at ∙ ap Some (sym (one_tree (trees_at ks) k l same)))

pub under_take : (m n : ℕ) (ids : List NodeId) → AreUnder m ids → AreUnder m (take n ids)
under_take m zero ids u = tt
under_take m (suc n) [] u = tt
under_take m (suc n) (i ∷ ids) u = (u.0, under_take m n ids u.1)

pub under_drop : (m n : ℕ) (ids : List NodeId) → AreUnder m ids → AreUnder m (drop n ids)
under_drop m zero ids u = u
under_drop m (suc n) [] u = tt
under_drop m (suc n) (i ∷ ids) u = under_drop m n ids u.1

pub operands_long : (ts : List Tree) (ids : List NodeId) → length (operands_at ts ids) ≡ length ids
operands_long ts [] = refl
operands_long ts (i ∷ ids) = ap suc (operands_long ts ids)

pub operands_take : (ts : List Tree) (n : ℕ) (ids : List NodeId) → operands_at ts (take n ids) ≡ take n (operands_at ts ids)
operands_take ts zero ids = refl
operands_take ts (suc n) [] = refl
operands_take ts (suc n) (i ∷ ids) = ap (λ l. unwrap_or (slice_get ts i.0) (leaf 0) ∷ l) (operands_take ts n ids)
