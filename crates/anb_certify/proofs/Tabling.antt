-- Tables of registers by number.
use Rattle.std.proofs.Common.{◌≡◌, ℕ, zero, suc, ◌<◌, List, [], ◌∷◌, ◌++◌, length, take, drop, Bool, true, false, Option, Some, None, refl, sym, ap, ◌∙◌, subst, ⊎_elim, arith, take-append-drop}
use Rattle.std.specs.Prelude.{slice_get, unwrap_or, ◌==◌, ◌↔◌, IsTrue}
use Rattle.std.proofs.lemmas.Bool.{eqb-true, eq-eqb}
use Rattle.anb_lemmas.proofs.Lists.{got_within}
use Rattle.anb_term.specs.declared.term.Op.{Op}
use Rattle.anb_term.specs.Operator.{arity, keys}
use Rattle.anb_term.specs.Tree.{Tree, leaf, node, trees_of, list_of, tree_eqb}
use Rattle.anb_term.specs.TreeSame.{list_of-trees_of, tree_itself, tree_same}
use Rattle.anb_term.specs.FreeAlgebra.{parts_of}
use Rattle.anb_term.specs.FreeLawful.{parts_are, free_lawful}
use Rattle.anb_term.proofs.Lists.{slice_get-there}
use Rattle.anb_plays.specs.Codes.{equal}
use Rattle.anb_intern.specs.declared.node.NodeId.{NodeId}
use Rattle.anb_intern.specs.Nodes.{operands_at, AreUnder, AreDistinct, HasPut}
use Rattle.anb_intern.proofs.Putting.{under_last, operands_last}
use Rattle.anb_intern.proofs.Nodes.{under_take, operands_long, operands_take}
use Rattle.anb_certify.specs.Numbered.{IsWritten, Opens, TableValue}
use Rattle.anb_reason.proofs.Flagging.{kept, operands_drop}
use Rattle.anb_certify.proofs.Grouping.{at_register}
use Rattle.anb_certify.proofs.Tied.{node_is}

pub has_grown : (pool pool2 : List Tree) (t : Tree) → HasPut pool t pool2 → (m : List Tree) × (pool2 ≡ pool ++ m)
has_grown pool pool2 t put = ⊎_elim (λ e. ([], e ∙ sym (append_nil pool))) (λ e. (t ∷ [], e)) put where
  append_nil : (l : List Tree) → l ++ [] ≡ l
  append_nil [] = refl
  append_nil (y ∷ l) = ap (λ z. y ∷ z) (append_nil l)

-- one register more
pub one_more : (pool pool2 m : List Tree) (ids ids2 : List NodeId) (id : NodeId) (t : Tree) → pool2 ≡ pool ++ m → AreUnder (length pool) ids → slice_get pool2 id.0 ≡ Some t → ids2 ≡ ids ++ id ∷ []
    → AreUnder (length pool2) ids2 × (operands_at pool2 ids2 ≡ operands_at pool ids ++ t ∷ [])
one_more pool pool2 m ids ids2 id t grown under stored are =
    let k = kept pool pool2 m ids grown under in (
      subst (AreUnder (length pool2)) (sym are) (under_last (length pool2) (length pool2) ids id (omega arith) (got_within pool2 id.0 t stored) k.0),
      ap (operands_at pool2) are ∙ operands_last pool2 ids id ∙ ap (λ o. operands_at pool2 ids ++ unwrap_or o (leaf 0) ∷ []) stored ∙ ap (λ l. l ++ t ∷ []) k.1,
    )

-- more registers of terms that are there
pub more_here : (pool : List Tree) (ids more : List NodeId) → AreUnder (length pool) ids → AreUnder (length pool) more → AreUnder (length pool) (ids ++ more) × (operands_at pool (ids ++ more) ≡ operands_at pool ids ++ operands_at pool more)
more_here pool [] more u v = (v, refl)
more_here pool (i ∷ ids) more u v = let r = more_here pool ids more u.1 v in ((u.0, r.0), ap (λ l. unwrap_or (slice_get pool i.0) (leaf 0) ∷ l) r.1)

module _ (pool : List Tree) (ids : List NodeId) (under : AreUnder (length pool) ids) (distinct : AreDistinct pool) where
  term_at : (r : ℕ) (x : NodeId) → slice_get ids r ≡ Some x → (t : Tree) × (slice_get pool x.0 ≡ Some t) × (slice_get (operands_at pool ids) r ≡ Some t)
  term_at r x e = let y = slice_get-there pool x.0 (under_of ids r under e) in (y.0, y.1, at_register pool ids r x y.0 e y.1) where
    under_of : (is : List NodeId) (k : ℕ) → AreUnder (length pool) is → slice_get is k ≡ Some x → x.0 < length pool
    under_of [] k u e = cc
    under_of (j ∷ is) zero u e = let s : j ≡ x = cc in subst (λ (z : NodeId). z.0 < length pool) s u.0
    under_of (j ∷ is) (suc k) u e = under_of is k u.1 e

  -- a register has a term where it has its number
  pub has_term : (r : ℕ) (x id : NodeId) (t : Tree) → slice_get ids r ≡ Some x → slice_get pool id.0 ≡ Some t → IsTrue (id.0 == x.0) ↔ (slice_get (operands_at pool ids) r ≡ Some t)
  has_term r x id t e f =
      let y = term_at r x e in (
        λ s. y.2 ∙ sym y.1 ∙ ap (slice_get pool) (sym (eqb-true id.0 x.0 s)) ∙ f,
        λ h. eq-eqb id.0 x.0 (distinct id.0 x.0 t f (y.1 ∙ sym y.2 ∙ h)),
      )

  pub no_term : (r : ℕ) (x : NodeId) (t : Tree) → slice_get ids r ≡ Some x → ((i : ℕ) → slice_get pool i ≡ Some t → ⊥) → slice_get (operands_at pool ids) r ≡ Some t → ⊥
  no_term r x t e none h = let y = term_at r x e in none x.0 (y.1 ∙ sym y.2 ∙ h)

  -- two registers have one term where they have one number
  pub equal_terms : (a b : ℕ) (x y : NodeId) → slice_get ids a ≡ Some x → slice_get ids b ≡ Some y → (x.0 ≡ y.0 → (t : Tree) × (slice_get (operands_at pool ids) a ≡ Some t) × (slice_get (operands_at pool ids) b ≡ Some t))
      × ((x.0 ≡ y.0 → ⊥) → (s : Tree) × (t : Tree) × (slice_get (operands_at pool ids) a ≡ Some s) × (slice_get (operands_at pool ids) b ≡ Some t) × (s ≡ t → ⊥))
  equal_terms a b x y ea eb =
      let p = term_at a x ea in
      let q = term_at b y eb in (
        λ s. (p.0, p.2, q.2 ∙ sym q.1 ∙ ap (slice_get pool) (sym s) ∙ p.1),
        λ n. (p.0, q.0, p.2, q.2, λ s. n (distinct x.0 y.0 p.0 p.1 (q.1 ∙ ap Some (sym s)))),
      )

-- ---- parts

same_numbers : (ts : List Tree) (xs ys : List NodeId) → AreDistinct ts → AreUnder (length ts) xs → AreUnder (length ts) ys → operands_at ts xs ≡ operands_at ts ys → xs ≡ ys
same_numbers ts [] [] d u v e = refl
same_numbers ts [] (y ∷ ys) d u v e = cc
same_numbers ts (x ∷ xs) [] d u v e = cc
same_numbers ts (x ∷ xs) (y ∷ ys) d u v e =
    let a = slice_get-there ts x.0 u.0 in
    let b = slice_get-there ts y.0 v.0 in
    let f : unwrap_or (slice_get ts x.0) (leaf 0) ≡ unwrap_or (slice_get ts y.0) (leaf 0) = cc in
    let g : a.0 ≡ b.0 = sym (ap (λ o. unwrap_or o (leaf 0)) a.1) ∙ f ∙ ap (λ o. unwrap_or o (leaf 0)) b.1 in
    let n : x.0 ≡ y.0 = d x.0 y.0 a.0 a.1 (b.1 ∙ ap Some (sym g)) in
    let R : ℕ → NodeId = λ n. record { 0 = n } in
    let s : x ≡ y = ap R n in
    let r = same_numbers ts xs ys d u.1 v.1 cc in cc

front_of : (ts : List Tree) (xs : List NodeId) (ks ps : List Tree) → operands_at ts xs ≡ ks ++ ps → operands_at ts (take (length ks) xs) ≡ ks
front_of ts xs ks ps e = operands_take ts (length ks) xs ∙ ap (take (length ks)) e ∙ seam ks where
  seam : (l : List Tree) → take (length l) (l ++ ps) ≡ l
  seam [] = refl
  seam (x ∷ l) = ap (λ z. x ∷ z) (seam l)

pub parts_there : (ts : List Tree) (o : Op) (ks : List NodeId) (built : Op) (ids : List NodeId) → length ks ≡ keys o → Opens o ks built ids → parts_of o (operands_at ts ks) (node built (trees_of (operands_at ts ids))) ≡ Some (operands_at ts (drop (length ks) ids))
parts_there ts o ks built ids n h =
    let P : Op → Type 0 = λ q. parts_of o (operands_at ts ks) (node q (trees_of (operands_at ts ids))) ≡ Some (operands_at ts (drop (length ks) ids)) in
    let split : operands_at ts ids ≡ operands_at ts ks ++ operands_at ts (drop (length ks) ids) =
    sym (take-append-drop (length ks) (operands_at ts ids)) ∙ ap (λ l. l ++ drop (length ks) (operands_at ts ids)) (sym (operands_take ts (length ks) ids) ∙ ap (operands_at ts) h.3) ∙ ap (λ l. operands_at ts ks ++ l) (sym (operands_drop ts (length ks) ids)) in
    let has = free_lawful (λ q. true) in
    let count : length (operands_at ts ks ++ operands_at ts (drop (length ks) ids)) ≡ arity o = sym (ap length split) ∙ operands_long ts ids ∙ h.2 in
    let u = has.undone_of o (operands_at ts ks) (operands_at ts (drop (length ks) ids)) h.0 refl (operands_long ts ks ∙ n) count (λ k d l. refl) (λ k d l. refl) in
    subst P h.1 (ap (λ l. parts_of o (operands_at ts ks) (node o (trees_of l))) split ∙ u)

pub parts_not : (ts : List Tree) (o : Op) (ks : List NodeId) (built : Op) (ids : List NodeId) → AreDistinct ts → AreUnder (length ts) ids → AreUnder (length ts) ks → (Opens o ks built ids → ⊥) → parts_of o (operands_at ts ks) (node built (trees_of (operands_at ts ids))) ≡ None
parts_not ts o ks built ids d u v n = go (parts_of o (operands_at ts ks) (node built (trees_of (operands_at ts ids)))) refl where
  go : (r : Option (List Tree)) → parts_of o (operands_at ts ks) (node built (trees_of (operands_at ts ids))) ≡ r → r ≡ None
  go None e = refl
  go (Some ps) e =
      let p = parts_are o (operands_at ts ks) (node built (trees_of (operands_at ts ids))) ps e in
      let s = node_is built o _ _ p.1 in
      let same : operands_at ts ids ≡ operands_at ts ks ++ ps = sym (list_of-trees_of (operands_at ts ids)) ∙ ap list_of s.1 ∙ list_of-trees_of (operands_at ts ks ++ ps) in
      let long : length ids ≡ arity o = sym (operands_long ts ids) ∙ ap length same ∙ p.2 in
      let front : operands_at ts (take (length ks) ids) ≡ operands_at ts ks = ap (λ m. operands_at ts (take m ids)) (sym (operands_long ts ks)) ∙ front_of ts ids (operands_at ts ks) ps same in
      absurd (n (p.0, sym s.0, long, same_numbers ts (take (length ks) ids) ks d (under_take (length ts) (length ks) ids u) v front))

-- ---- comparisons

pub same_written : (a b : ℕ) (v : TableValue) → ((t : Tree) × (slice_get v.terms a ≡ Some t) × (slice_get v.terms b ≡ Some t)) → IsWritten v (equal a b) true v
same_written a b v h = (λ f. cc, λ f. ([], rw (h.1, h.2, tree_itself h.0) refl, append_none v.terms, refl)) where
  append_none : (l : List Tree) → l ≡ l ++ []
  append_none [] = refl
  append_none (x ∷ l) = ap (λ z. x ∷ z) (append_none l)

pub other_written : (a b : ℕ) (v : TableValue) → ((s : Tree) × (t : Tree) × (slice_get v.terms a ≡ Some s) × (slice_get v.terms b ≡ Some t) × (s ≡ t → ⊥)) → IsWritten v (equal a b) false v
other_written a b v h = (λ f. rw (h.2, h.3, differ (tree_eqb h.0 h.1) refl) refl, λ f. cc) where
  differ : (c : Bool) → tree_eqb h.0 h.1 ≡ c → tree_eqb h.0 h.1 ≡ false
  differ true e = absurd (h.4 (tree_same h.0 h.1 e))
  differ false e = e
