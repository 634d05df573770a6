-- What was built, found by its operator and registers.
use Rattle.std.proofs.Common.{◌≡◌, ℕ, List, [], ◌∷◌, Bool, true, false, cond, Option, Some, None, Ordering, Less, Equal, Greater, refl, sym, ap, ◌∙◌, ◌⊎◌, inl, inr}
use Rattle.std.specs.Ordering.{nat_cmp, is_eq, match_ordering, ordering_reverse}
use Rattle.std.specs.Cmp.Lexicographic.{slice_cmp}
use Rattle.std.specs.Map.{lookup}
use Rattle.std.specs.BTreeMap.{insert_entry}
use Rattle.std.proofs.lemmas.Cmp.{nat_list_cmp_total}
use Rattle.std.proofs.lemmas.Map.Lookups.{exact_bytes}
use Rattle.anb_term.specs.declared.term.Op.{Op}
use Rattle.anb_term.specs.declared.term.Op.TheVariants.{Hash, Mac, Seal, Wrap, Format}
use Rattle.anb_compile.specs.Sharing.{key}

pub key_same : (o p : Op) (ns ms : List ℕ) → key o ns ≡ key p ms → (o ≡ p) × (ns ≡ ms)
key_same Hash Hash ns ms e = (refl, cc)
key_same Mac Mac ns ms e = (refl, cc)
key_same Seal Seal ns ms e = (refl, cc)
key_same Wrap Wrap ns ms e = (refl, cc)
key_same (Format i a) (Format j b) ns ms e = (cc, cc)
key_same _ _ ns ms e = cc

-- ---- an ordered map whose keys are read as lists of numbers

equal_order : (o : Ordering) → is_eq o ≡ true → o ≡ Equal
equal_order Less e = cc
equal_order Equal e = refl
equal_order Greater e = cc

even : (o : Ordering) → o ≡ ordering_reverse o → is_eq o ≡ true
even Less e = cc
even Equal e = refl
even Greater e = cc

same_key : (k q : List ℕ) → is_eq (slice_cmp nat_cmp k q) ≡ true → k ≡ q
same_key k q e = exact_bytes k q (equal_order (slice_cmp nat_cmp k q) e)

itself : (k : List ℕ) → is_eq (slice_cmp nat_cmp k k) ≡ true
itself k = even (slice_cmp nat_cmp k k) (nat_list_cmp_total.antisymm k k)

module _ {K : Type 0} (f : K → List ℕ) where
  abbrev test : List ℕ → K → Bool
  test q k = is_eq (slice_cmp nat_cmp q (f k))

  abbrev order : K → K → Ordering
  order j k = slice_cmp nat_cmp (f j) (f k)

module _ {K X : Type 0} (f : K → List ℕ) where
  abbrev at : List ℕ → List (K × X) → Option X
  at q es = lookup (test f q) es

  here_step : (o : Ordering) (k : K) (v : X) (e : K × X) (es rest : List (K × X)) → order f k e.0 ≡ o → at (f k) rest ≡ Some v → at (f k) (match_ordering o ((k, v) ∷ e ∷ es) ((e.0, v) ∷ es) (e ∷ rest)) ≡ Some v
  here_step Less k v e es rest is next = rw (itself (f k)) refl
  here_step Equal k v e es rest is next = rw is refl
  here_step Greater k v e es rest is next = rw is next

  insert_here : (es : List (K × X)) (k : K) (v : X) → at (f k) (insert_entry (order f) es k v) ≡ Some v
  insert_here [] k v = rw (itself (f k)) refl
  insert_here (e ∷ es) k v = here_step (order f k e.0) k v e es (insert_entry (order f) es k v) refl (insert_here es k v)

  -- a key that is found is another than one that isn't
  apart : (b : Bool) (q : List ℕ) (k : K) (es : List (K × X)) (s : X) → test f q k ≡ b → at (f k) es ≡ None → at q es ≡ Some s → test f q k ≡ false
  apart true q k es s is none some = let n = ap (λ l. at l es) (same_key q (f k) is) in cc
  apart false q k es s is none some = is

  behind : (b : Bool) (x : X) (o p : Option X) (s : X) → (o ≡ Some s → p ≡ Some s) → cond b (Some x) o ≡ Some s → cond b (Some x) p ≡ Some s
  behind true x o p s h e = e
  behind false x o p s h e = h e

  stays_step : (o : Ordering) (k : K) (v : X) (q : List ℕ) (s : X) (e : K × X) (es rest : List (K × X)) → order f k e.0 ≡ o → at (f k) (e ∷ es) ≡ None → at q (e ∷ es) ≡ Some s
      → (at (f k) es ≡ None → at q es ≡ Some s → at q rest ≡ Some s) → at q (match_ordering o ((k, v) ∷ e ∷ es) ((e.0, v) ∷ es) (e ∷ rest)) ≡ Some s
  stays_step Less k v q s e es rest is none some next = rw (apart (test f q k) q k (e ∷ es) s refl none some) some
  stays_step Equal k v q s e es rest is none some next = let n : Some e.1 ≡ None = rw is at none in cc
  stays_step Greater k v q s e es rest is none some next = let n : at (f k) es ≡ None = rw is at none in behind (test f q e.0) e.1 (at q es) (at q rest) s (next n) some

  insert_stays : (es : List (K × X)) (k : K) (v : X) (q : List ℕ) (s : X) → at (f k) es ≡ None → at q es ≡ Some s → at q (insert_entry (order f) es k v) ≡ Some s
  insert_stays [] k v q s none some = cc
  insert_stays (e ∷ es) k v q s none some = stays_step (order f k e.0) k v q s e es (insert_entry (order f) es k v) refl none some (insert_stays es k v q s)

  -- what is found behind an entry is it, or is found without it
  either : (b : Bool) (q : List ℕ) (k j : K) (v s : X) (es : List (K × X)) → test f q j ≡ b → f j ≡ f k → cond b (Some v) (at q es) ≡ Some s → ((q ≡ f k) × (s ≡ v)) ⊎ ((b ≡ false) × (at q es ≡ Some s))
  either true q k j v s es is same e = inl (same_key q (f j) is ∙ same, cc)
  either false q k j v s es is same e = inr (refl, e)

  front : (b : Bool) (q : List ℕ) (k : K) (v x s : X) (o p : Option X) → (o ≡ Some s → ((q ≡ f k) × (s ≡ v)) ⊎ (p ≡ Some s)) → cond b (Some x) o ≡ Some s → ((q ≡ f k) × (s ≡ v)) ⊎ (cond b (Some x) p ≡ Some s)
  front true q k v x s o p h e = inr e
  front false q k v x s o p h e = h e

  only_step : (o : Ordering) (k : K) (v : X) (q : List ℕ) (s : X) (e : K × X) (es rest : List (K × X)) → order f k e.0 ≡ o → at q (match_ordering o ((k, v) ∷ e ∷ es) ((e.0, v) ∷ es) (e ∷ rest)) ≡ Some s
      → (at q rest ≡ Some s → ((q ≡ f k) × (s ≡ v)) ⊎ (at q es ≡ Some s)) → ((q ≡ f k) × (s ≡ v)) ⊎ (at q (e ∷ es) ≡ Some s)
  only_step Less k v q s e es rest is found next = elim (either (test f q k) q k k v s (e ∷ es) refl refl found) [ inl a ↦ inl a | inr a ↦ inr a.1 ]
  only_step Equal k v q s e es rest is found next = elim (either (test f q e.0) q k e.0 v s es refl (sym (exact_bytes (f k) (f e.0) is)) found) [ inl a ↦ inl a | inr a ↦ inr (rw (a.0) (a.1)) ]
  only_step Greater k v q s e es rest is found next = front (test f q e.0) q k v e.1 s (at q rest) (at q es) next found

  insert_only : (es : List (K × X)) (k : K) (v : X) (q : List ℕ) (s : X) → at q (insert_entry (order f) es k v) ≡ Some s → ((q ≡ f k) × (s ≡ v)) ⊎ (at q es ≡ Some s)
  insert_only [] k v q s found = elim (either (test f q k) q k k v s [] refl refl found) [ inl a ↦ inl a | inr a ↦ inr a.1 ]
  insert_only (e ∷ es) k v q s found = only_step (order f k e.0) k v q s e es (insert_entry (order f) es k v) refl found (insert_only es k v q s)

  -- what is found once an entry is there
  pub inserted : (es es' : List (K × X)) (k : K) (v : X) → es' ≡ insert_entry (order f) es k v → at (f k) es ≡ None
      → (at (f k) es' ≡ Some v) × ((q : List ℕ) (s : X) → at q es ≡ Some s → at q es' ≡ Some s) × ((q : List ℕ) (s : X) → at q es' ≡ Some s → ((q ≡ f k) × (s ≡ v)) ⊎ (at q es ≡ Some s))
  inserted es es' k v is none = (
    ap (at (f k)) is ∙ insert_here es k v,
    λ q s some. ap (at q) is ∙ insert_stays es k v q s none some,
    λ q s some. insert_only es k v q s (sym (ap (at q) is) ∙ some),
  )
