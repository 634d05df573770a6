-- Marks that are made anew from the checks.
use Rattle.std.proofs.Common.{◌≡◌, ℕ, suc, ◌+◌, ◌<◌, ◌≤◌, List, [], ◌∷◌, length, Bool, true, false, Some, refl, sym, ap, subst, arith, ⊎_elim}
use Rattle.std.specs.Prelude.{slice_get}
use Rattle.std.proofs.Math.ListN.{set, length-set}
use Rattle.anb_lemmas.proofs.Numbers.{below_or_last}
use Rattle.anb_lemmas.proofs.Lists.{got_within}
use Rattle.anb_term.proofs.Lists.{slice_get-there, set-at, set-same}
use Rattle.anb_close.specs.declared.entry.Entry.{Entry}
use Rattle.anb_basis.specs.declared.check.Check.{Check}
use Rattle.anb_basis.specs.Checks.{entry_of, IsGiven}
use Rattle.anb_basis.proofs.Marks.{set_stays}

-- the entries of the first checks are marked, and no others
pub record IsMarked (cs : List Check) (ms : List Bool) (n : ℕ) : Type 0 where
  pub sound : (i : ℕ) → slice_get ms i ≡ Some true → (k : ℕ) × (c : Check) × (slice_get cs k ≡ Some c) × (entry_of c ≡ i)
  pub complete : (k : ℕ) (c : Check) → k < n → slice_get cs k ≡ Some c → entry_of c < length ms → slice_get ms (entry_of c) ≡ Some true

pub none_marked : (cs : List Check) (ms : List Bool) (n : ℕ) → length ms ≤ n → ((i : ℕ) → i < n → slice_get ms i ≡ Some false) → IsMarked cs ms 0
none_marked cs ms n long off = record {
  sound = λ i e. let f = off i (omega (arith, long, got_within ms i true e)) in cc;
  complete = λ k c h. absurd (omega arith);
}

module _ (cs : List Check) (ms : List Bool) (n : ℕ) (x : Check) (so_far : IsMarked cs ms n) (here : slice_get cs n ≡ Some x) where
  pub marked_next : entry_of x < length ms → IsMarked cs (set ms (entry_of x) true) (n + 1)
  marked_next h = record {
    sound = λ i e. ⊎_elim (λ (same, v). (n, x, here, sym same)) (λ old. so_far.sound i old) (set-at ms (entry_of x) i true true e);
    complete = λ k c l at within. ⊎_elim
        (λ a. set_stays ms (entry_of x) (entry_of c) (so_far.complete k c a at (omega (arith, within, length-set ms (entry_of x) true))))
        (λ b.
        let q : slice_get cs n ≡ Some c = subst (λ m. slice_get cs m ≡ Some c) b at in
        let s : x ≡ c = cc in
        let t = slice_get-there ms (entry_of x) h in
        subst (λ d. slice_get (set ms (entry_of x) true) (entry_of d) ≡ Some true) s (set-same ms (entry_of x) true t.0 t.1))
        (below_or_last k n l);
  }

  pub passed_next : length ms ≤ entry_of x → IsMarked cs ms (n + 1)
  passed_next h = record {
    sound = so_far.sound;
    complete = λ k c l at within. ⊎_elim
        (λ a. so_far.complete k c a at within)
        (λ b.
        let q : slice_get cs n ≡ Some c = subst (λ m. slice_get cs m ≡ Some c) b at in
        let s : x ≡ c = cc in
        absurd (omega (arith, h, within, ap entry_of s)))
        (below_or_last k n l);
  }

-- marks that are true at the same places are the same
same_trues : (xs ys : List Bool) → length xs ≡ length ys → ((i : ℕ) → slice_get xs i ≡ Some true → slice_get ys i ≡ Some true) → ((i : ℕ) → slice_get ys i ≡ Some true → slice_get xs i ≡ Some true) → xs ≡ ys
same_trues [] [] long f g = refl
same_trues [] (y ∷ ys) long f g = absurd (omega arith)
same_trues (x ∷ xs) [] long f g = absurd (omega arith)
same_trues (true ∷ xs) (true ∷ ys) long f g = ap (λ l. true ∷ l) (same_trues xs ys (omega arith) (λ i. f (suc i)) (λ i. g (suc i)))
same_trues (false ∷ xs) (false ∷ ys) long f g = ap (λ l. false ∷ l) (same_trues xs ys (omega arith) (λ i. f (suc i)) (λ i. g (suc i)))
same_trues (true ∷ xs) (false ∷ ys) long f g = let e = f 0 refl in cc
same_trues (false ∷ xs) (true ∷ ys) long f g = let e = g 0 refl in cc

pub marks_are : (es : List Entry) (cs : List Check) (ms ms' : List Bool) (n : ℕ) → IsGiven es cs ms → length ms ≡ length ms' → length cs ≤ n → IsMarked cs ms' n → ms' ≡ ms
marks_are es cs ms ms' n given long all marked = same_trues ms' ms (sym long)
    (λ i e. let m = marked.sound i e in subst (λ j. slice_get ms j ≡ Some true) m.3 (given.of_check m.0 m.1 m.2))
    (λ i e.
    let m = given.of_mark i e in
    let h = got_within ms i true e in
    subst (λ j. slice_get ms' j ≡ Some true) m.3 (marked.complete m.0 m.1 (omega (arith, all, got_within cs m.0 m.1 m.2)) m.2 (omega (arith, h, long, m.3))))
