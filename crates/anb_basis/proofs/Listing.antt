-- The old entries that may have come to be compared.
use Rattle.std.proofs.Common.{◌≡◌, ℕ, ◌+◌, ◌<◌, ◌≤◌, List, length, take, Bool, true, false, Some, sym, ap, ◌∙◌, subst, arith, inl, inr, ◌⊎◌, ⊎_elim}
use Rattle.std.specs.Prelude.{slice_get}
use Rattle.std.proofs.lemmas.List.{take_all}
use Rattle.anb_lemmas.proofs.Numbers.{below_or_last}
use Rattle.anb_lemmas.proofs.Lists.{got_within}
use Rattle.anb_term.specs.declared.term.Op.{Op}
use Rattle.anb_term.specs.Operator.{undoable}
use Rattle.anb_term.specs.Tree.{Tree, node, Trees, trees_of, list_of}
use Rattle.anb_term.specs.TreeSame.{trees_of-list_of}
use Rattle.anb_close.specs.Rows.{mades_for}
use Rattle.anb_close.specs.declared.entry.Entry.{Entry}
use Rattle.anb_close.specs.Entries.{rows}
use Rattle.anb_close.specs.Listed.{IsListed, AreTouched}
use Rattle.anb_basis.specs.Checks.{IsComparedWith, EqualsMarked, RestMarked, MarksStay}

-- those of these that are compared are marked
pub record ListedMarked (es : List Entry) (ks : List ℕ) (from : ℕ) (ms : List Bool) (n : ℕ) : Type 0 where
  pub each : (k i : ℕ) (c : Tree) → k < n → slice_get ks k ≡ Some i → i < from → IsComparedWith es i c → slice_get ms i ≡ Some true

pub none_marked : (es : List Entry) (ks : List ℕ) (from : ℕ) (ms : List Bool) → ListedMarked es ks from ms 0
none_marked es ks from ms = record { each = λ k i c h. absurd (omega arith) }

pub listed_next : (es : List Entry) (ks : List ℕ) (from : ℕ) (ms ms' : List Bool) (n i : ℕ) → ListedMarked es ks from ms n → MarksStay ms ms' → slice_get ks n ≡ Some i → ((c : Tree) → i < from → IsComparedWith es i c → slice_get ms' i ≡ Some true) → ListedMarked es ks from ms' (n + 1)
listed_next es ks from ms ms' n i so_far stay at new = record {
  each = λ k j c l here old h. ⊎_elim
      (λ a. stay j (so_far.each k j c a here old h))
      (λ b.
      let q : slice_get ks n ≡ Some j = subst (λ m. slice_get ks m ≡ Some j) b here in
      let s : i ≡ j = cc in
      subst (λ m. slice_get ms' m ≡ Some true) s (new c (subst (λ m. m < from) (sym s) old) (subst (λ m. IsComparedWith es m c) (sym s) h)))
      (below_or_last k n l);
}

-- so all first ones that are compared are marked
pub first_marked : (es : List Entry) (ks : List ℕ) (from : ℕ) (ms ms' : List Bool) (n : ℕ) → RestMarked es ms from ks → MarksStay ms ms' → length ks ≤ n → ListedMarked es ks from ms' n → EqualsMarked es ms' from
first_marked es ks from ms ms' n rest stay long so_far i c h k = ⊎_elim
    (λ a. stay i a)
    (λ (m, at). so_far.each m i c (omega (arith, long, got_within ks m i at)) at h k)
    (rest i c h k)

-- one that is compared by its operands was so before, or is touched
pub compared_before : (es es' : List Entry) (ks : List ℕ) → AreTouched (rows es) (rows es') ks → (i : ℕ) (c : Tree)
    → (o : Op) × (us : Trees) × (ms : Trees) × (slice_get (rows es') i ≡ Some (Some (node o us))) × (undoable o ≡ false) × (mades_for (rows es') us ≡ Some ms) × (node o ms ≡ c) → IsComparedWith es i c ⊎ IsListed ks i
compared_before es es' ks touched i c (o, us, ms, row, u, made, same) =
    let all : trees_of (take (length (list_of us)) (list_of us)) ≡ us = ap trees_of (take_all (length (list_of us)) (list_of us) (omega arith)) ∙ trees_of-list_of us in
    ⊎_elim
    (λ (row', made'). inl (inr (o, us, ms, row', u, ap (mades_for (rows es)) (sym all) ∙ made', same)))
    (λ l. inr l)
    (touched i o us (length (list_of us)) ms row (ap (mades_for (rows es')) all ∙ made))

pub rest_stays : (es : List Entry) (ms ms' : List Bool) (n : ℕ) (ks : List ℕ) → MarksStay ms ms' → RestMarked es ms n ks → RestMarked es ms' n ks
rest_stays es ms ms' n ks stay rest i c h k = ⊎_elim (λ a. inl (stay i a)) (λ l. inr l) (rest i c h k)
