-- Signs, and who owns them.
use Rattle.std.proofs.Common.{◌≡◌, ℕ, zero, suc, ◌+◌, ◌<◌, ◌≤◌, List, [], ◌∷◌, ◌++◌, length, Option, Some, None, refl, sym, ap, ◌∙◌, subst, inl, inr, ◌⊎◌, ⊎_elim, arith, length-append}
use Rattle.std.specs.Prelude.{slice_get, unwrap_or, replicate}
use Rattle.anb_lemmas.proofs.Lists.{get_last, got_within}
use Rattle.anb_term.specs.declared.term.Op.{Op}
use Rattle.anb_term.specs.Tree.{Tree, leaf, node, trees_of}
use Rattle.anb_term.specs.Lawful.{picked}
use Rattle.anb_term.proofs.Lists.{slice_get-append}
use Rattle.anb_intern.specs.declared.node.NodeId.{NodeId}
use Rattle.anb_intern.specs.Nodes.{operands_at, AreUnder, AreDistinct, HasPut}
use Rattle.anb_certify.specs.Signs.{sign_of, Owned, HasSigned}
use Rattle.anb_reason.proofs.Flagging.{kept}

abbrev pub no_owner : Option ℕ
no_owner = None

pub one_none_more : (n : ℕ) → replicate (n + 1) no_owner ≡ replicate n no_owner ++ no_owner ∷ []
one_none_more zero = refl
one_none_more (suc n) = let m : suc n + 1 ≡ suc (n + 1) = omega arith in ap (λ k. replicate k no_owner) m ∙ ap (λ l. no_owner ∷ l) (one_none_more n)

pub none_owned : (n k x : ℕ) → slice_get (replicate n no_owner) k ≡ Some (Some x) → ⊥
none_owned zero k x e = cc
none_owned (suc n) zero x e = cc
none_owned (suc n) (suc k) x e = none_owned n k x e

-- the terms of numbers that are picked
pub operands_picked : (ts : List Tree) (ids : List NodeId) (ns : List ℕ) → operands_at ts (picked ids ns) ≡ picked (operands_at ts ids) ns
operands_picked ts ids [] = refl
operands_picked ts ids (n ∷ ns) = go (slice_get ids n) refl (operands_picked ts ids ns) where
  term_of_id : Option NodeId → Option Tree
  term_of_id None = None
  term_of_id (Some i) = Some (unwrap_or (slice_get ts i.0) (leaf 0))

  at : (is : List NodeId) (n : ℕ) → slice_get (operands_at ts is) n ≡ term_of_id (slice_get is n)
  at [] n = refl
  at (i ∷ is) zero = refl
  at (i ∷ is) (suc n) = at is n

  go : (o : Option NodeId) → slice_get ids n ≡ o → operands_at ts (picked ids ns) ≡ picked (operands_at ts ids) ns → operands_at ts (picked ids (n ∷ ns)) ≡ picked (operands_at ts ids) (n ∷ ns)
  go None e f = rw (e, at ids n ∙ ap term_of_id e) f
  go (Some i) e f = rw (e, at ids n ∙ ap term_of_id e) (ap (λ l. unwrap_or (slice_get ts i.0) (leaf 0) ∷ l) f)

pub under_picked : (m : ℕ) (ids : List NodeId) (ns : List ℕ) → AreUnder m ids → AreUnder m (picked ids ns)
under_picked m ids [] u = tt
under_picked m ids (n ∷ ns) u = go (slice_get ids n) refl (under_picked m ids ns u) where
  there : (is : List NodeId) (k : ℕ) (i : NodeId) → AreUnder m is → slice_get is k ≡ Some i → i.0 < m
  there [] k i u e = cc
  there (j ∷ is) zero i u e = let s : j ≡ i = cc in subst (λ (z : NodeId). z.0 < m) s u.0
  there (j ∷ is) (suc k) i u e = there is k i u.1 e

  go : (o : Option NodeId) → slice_get ids n ≡ o → AreUnder m (picked ids ns) → AreUnder m (picked ids (n ∷ ns))
  go None e f = rw e f
  go (Some i) e f = rw e (there ids n i u e, f)

module _ (pool pool2 : List Tree) (classes : List NodeId) (owners owners2 : List (Option ℕ)) (id at x : ℕ) (o : Op) (ns : List ℕ) (ids : List NodeId) (are : ids ≡ picked classes ns)
    (put : HasPut pool (node o (trees_of (operands_at pool ids))) pool2) (stored : slice_get pool2 id ≡ Some (node o (trees_of (operands_at pool ids))))
    (under : AreUnder (length pool) classes) (distinct : AreDistinct pool2) (long : length owners ≡ length pool) (owned : Owned owners id at owners2 x) where
  grown : (m : List Tree) × (pool2 ≡ pool ++ m)
  grown = ⊎_elim (λ e. ([], e ∙ sym (append_nil pool))) (λ e. (node o (trees_of (operands_at pool ids)) ∷ [], e)) put where
    append_nil : (l : List Tree) → l ++ [] ≡ l
    append_nil [] = refl
    append_nil (y ∷ l) = ap (λ z. y ∷ z) (append_nil l)

  sign_is : node o (trees_of (operands_at pool ids)) ≡ sign_of (operands_at pool classes) o ns
  sign_is = ap (λ l. node o (trees_of (operands_at pool l))) are ∙ ap (λ l. node o (trees_of l)) (operands_picked pool classes ns)

  front : (k : ℕ) (t : Tree) → slice_get pool k ≡ Some t → slice_get pool2 k ≡ Some t
  front k t e = subst (λ l. slice_get l k ≡ Some t) (sym grown.1) (slice_get-append pool grown.0 k t e)

  back : (k : ℕ) (t : Tree) → k < length pool → slice_get pool2 k ≡ Some t → slice_get pool k ≡ Some t
  back k t l e = go pool k grown.0 l (subst (λ l. slice_get l k ≡ Some t) grown.1 e) where
    go : (xs : List Tree) (k : ℕ) (ys : List Tree) → k < length xs → slice_get (xs ++ ys) k ≡ Some t → slice_get xs k ≡ Some t
    go [] k ys l e = absurd (omega (arith, l))
    go (z ∷ xs) zero ys l e = e
    go (z ∷ xs) (suc k) ys l e = go xs k ys (omega (arith, l)) e

  pub under_still : AreUnder (length pool2) classes
  under_still = (kept pool pool2 grown.0 classes grown.1 under).0

  pub signed : HasSigned (record { classes = operands_at pool classes; signs = pool; owners = owners }) (sign_of (operands_at pool classes) o ns) at (record { classes = operands_at pool2 classes; signs = pool2; owners = owners2 }) x
  signed = record {
    classes = (kept pool pool2 grown.0 classes grown.1 under).1;
    owns = (id, stored ∙ ap Some sign_is, owned.here);
    kept = λ t y h. (h.0, front h.0 t h.1, owned.kept h.0 y h.2);
    only = λ t y h. ⊎_elim (λ a. inl (h.0, back h.0 t (omega (arith, got_within owners h.0 (Some y) a, long)) h.1, a))
        (λ b. inr (let e : Some t ≡ Some (node o (trees_of (operands_at pool ids))) = sym h.1 ∙ ap (slice_get pool2) b.0 ∙ stored in let f : t ≡ node o (trees_of (operands_at pool ids)) = cc in f ∙ sign_is, b.1))
        (owned.only h.0 y h.2);
    one = λ t y z h k.
        let s : h.0 ≡ k.0 = distinct h.0 k.0 t h.1 k.1 in
        let e : Some (Some y) ≡ Some (Some z) = sym h.2 ∙ ap (slice_get owners2) s ∙ k.2 in cc;
  }

pub owners_long : (pool pool2 : List Tree) (t : Tree) → HasPut pool t pool2 → length pool2 ≤ length pool + 1
owners_long pool pool2 t put = ⊎_elim (λ e. omega (arith, ap length e)) (λ e. omega (arith, ap length e, length-append pool (t ∷ []))) put

-- a sign that was put stands last, where it is new
pub sign_place : (pool pool2 : List Tree) (t : Tree) (id : ℕ) → HasPut pool t pool2 → slice_get pool2 id ≡ Some t → AreDistinct pool2 → ((id < length pool) × (length pool2 ≡ length pool)) ⊎ ((id ≡ length pool) × (length pool2 ≡ length pool + 1))
sign_place pool pool2 t id (inl e) at d = inl (omega (arith, got_within pool2 id t at, ap length e), ap length e)
sign_place pool pool2 t id (inr e) at d = inr (d id (length pool) t at (subst (λ l. slice_get l (length pool) ≡ Some t) (sym e) (get_last pool t)), ap length e ∙ length-append pool (t ∷ []))
