-- Tables of registers: what stands behind others, windows, writes, and what is picked.
use Rattle.std.proofs.Common.{◌≡◌, ℕ, zero, suc, ◌+◌, ◌≤◌, ◌<◌, List, [], ◌∷◌, ◌++◌, length, take, drop, set, true, false, Option, Some, None, refl, sym, ap, ◌∙◌, arith, ◌⊎◌}
use Rattle.std.specs.Prelude.{◌||◌, slice_get, nat_eq}
use Rattle.std.specs.List.{AllByRecursion}
use Rattle.std.proofs.lemmas.Bool.{eq-eqb, or_right, or_parts, or_cases}
use Rattle.std.proofs.lemmas.List.Folds.{list_any-append}
use Rattle.anb_term.specs.Lawful.{picked}
use Rattle.anb_term.proofs.Lists.{slice_get-there}
use Rattle.anb_report.specs.Looking.{is_among}

-- ---- membership

pub among_first : (n : ℕ) (ns : List ℕ) → is_among (n ∷ ns) n ≡ true
among_first n ns = ap (λ b. b || is_among ns n) (eq-eqb n n refl)

pub among_rest : (k : ℕ) (ns : List ℕ) (n : ℕ) → is_among ns n ≡ true → is_among (k ∷ ns) n ≡ true
among_rest k ns n e = or_right (nat_eq k n) (is_among ns n) e

pub among_front : (xs ys : List ℕ) (n : ℕ) → is_among xs n ≡ true → is_among (xs ++ ys) n ≡ true
among_front xs ys n e = list_any-append (λ k. nat_eq k n) xs ys ∙ ap (λ b. b || is_among ys n) e

pub among_back : (xs ys : List ℕ) (n : ℕ) → is_among ys n ≡ true → is_among (xs ++ ys) n ≡ true
among_back xs ys n e = list_any-append (λ k. nat_eq k n) xs ys ∙ or_right (is_among xs n) (is_among ys n) e

pub among_neither : (xs ys : List ℕ) (n : ℕ) → is_among (xs ++ ys) n ≡ false → (is_among xs n ≡ false) × (is_among ys n ≡ false)
among_neither xs ys n e = or_parts (is_among xs n) (is_among ys n) (sym (list_any-append (λ k. nat_eq k n) xs ys) ∙ e)

pub among_one : (xs ys : List ℕ) (n : ℕ) → is_among (xs ++ ys) n ≡ true → (is_among xs n ≡ true) ⊎ (is_among ys n ≡ true)
among_one xs ys n e = or_cases (is_among xs n) (is_among ys n) (sym (list_any-append (λ k. nat_eq k n) xs ys) ∙ e)

-- ---- places

module _ {A : Type 0} where
  -- behind a list stands the next one
  pub get_behind : (xs ys : List A) (j : ℕ) → slice_get (xs ++ ys) (length xs + j) ≡ slice_get ys j
  get_behind [] ys j = let z : 0 + j ≡ j = omega arith in ap (slice_get ys) z
  get_behind (x ∷ xs) ys j =
      let s : suc (length xs) + j ≡ suc (length xs + j) = omega arith in
      ap (slice_get (x ∷ (xs ++ ys))) s ∙ get_behind xs ys j

  pub get_front : (xs ys : List A) (n : ℕ) → n < length xs → slice_get (xs ++ ys) n ≡ slice_get xs n
  get_front [] ys n h = absurd (omega (arith, h))
  get_front (x ∷ xs) ys zero h = refl
  get_front (x ∷ xs) ys (suc n) h = get_front xs ys n (omega (arith, h))

  pub get_none : (xs : List A) (n : ℕ) → length xs ≤ n → slice_get xs n ≡ None
  get_none [] n h = refl
  get_none (x ∷ xs) zero h = absurd (omega (arith, h))
  get_none (x ∷ xs) (suc n) h = get_none xs n (omega (arith, h))

  -- two lists grow alike at a place: it is in front of both ends, or what is added is the same there
  pub grow_alike : (T U ws us : List A) (r : ℕ) → length T ≡ length U
      → (r < length T → slice_get T r ≡ slice_get U r) → ((j : ℕ) → r ≡ length T + j → slice_get ws j ≡ slice_get us j)
      → slice_get (T ++ ws) r ≡ slice_get (U ++ us) r
  grow_alike [] [] ws us r l h k = k r (let z : r ≡ 0 + r = omega arith in z)
  grow_alike [] (u ∷ U) ws us r l h k = cc
  grow_alike (t ∷ T) [] ws us r l h k = cc
  grow_alike (t ∷ T) (u ∷ U) ws us zero l h k = h (omega arith)
  grow_alike (t ∷ T) (u ∷ U) ws us (suc r) l h k =
      grow_alike T U ws us r (omega (arith, l)) (λ b. h (omega (arith, b))) (λ j e. k j (let s : suc r ≡ suc (length T) + j = omega (arith, e) in s))

  abbrev the_none : List A
  the_none = []

  none_taken : (count j : ℕ) → slice_get (take count (the_none)) j ≡ None
  none_taken zero j = refl
  none_taken (suc count) j = refl

  none_behind : (n count j : ℕ) → slice_get (take count (drop n the_none)) j ≡ None
  none_behind zero count j = none_taken count j
  none_behind (suc n) count j = none_taken count j

  -- so many of a list from a place on
  pub get_window : (xs : List A) (n count j : ℕ) → j < count → slice_get (take count (drop n xs)) j ≡ slice_get xs (n + j)
  get_window [] n count j h = none_behind n count j
  get_window (x ∷ xs) zero zero j h = absurd (omega (arith, h))
  get_window (x ∷ xs) zero (suc count) zero h = refl
  get_window (x ∷ xs) zero (suc count) (suc j) h =
      let s : 0 + suc j ≡ suc (0 + j) = omega arith in
      get_window xs zero count j (omega (arith, h)) ∙ sym (ap (slice_get (x ∷ xs)) s)
  get_window (x ∷ xs) (suc n) count j h =
      let s : suc n + j ≡ suc (n + j) = omega arith in
      get_window xs n count j h ∙ sym (ap (slice_get (x ∷ xs)) s)

  pub window_length : (xs : List A) (n count : ℕ) → n + count ≤ length xs → length (take count (drop n xs)) ≡ count
  window_length xs zero zero h = refl
  window_length [] zero (suc count) h = absurd (omega (arith, h))
  window_length (x ∷ xs) zero (suc count) h = ap suc (window_length xs zero count (omega (arith, h)))
  window_length [] (suc n) count h = absurd (omega (arith, h))
  window_length (x ∷ xs) (suc n) count h = window_length xs n count (omega (arith, h))

  -- lists of one length that are the same at each place are one
  pub same_lists : (xs ys : List A) → length xs ≡ length ys → ((j : ℕ) → j < length xs → slice_get xs j ≡ slice_get ys j) → xs ≡ ys
  same_lists [] [] l h = refl
  same_lists [] (y ∷ ys) l h = cc
  same_lists (x ∷ xs) [] l h = cc
  same_lists (x ∷ xs) (y ∷ ys) l h =
      let first : Some x ≡ Some y = h 0 (omega arith) in
      let one : x ≡ y = cc in
      let rest = same_lists xs ys (omega (arith, l)) (λ j b. h (suc j) (omega (arith, b))) in
      rw (one, rest) refl

  -- ---- one write

  pub set_apart : (xs : List A) (i k : ℕ) (v : A) → (i ≡ k → ⊥) → slice_get (set xs i v) k ≡ slice_get xs k
  set_apart [] i k v h = refl
  set_apart (x ∷ xs) zero zero v h = absurd (h refl)
  set_apart (x ∷ xs) zero (suc k) v h = refl
  set_apart (x ∷ xs) (suc i) zero v h = refl
  set_apart (x ∷ xs) (suc i) (suc k) v h = set_apart xs i k v (λ s. h (ap suc s))

  pub set_there : (xs : List A) (i : ℕ) (v : A) → i < length xs → slice_get (set xs i v) i ≡ Some v
  set_there [] i v h = absurd (omega (arith, h))
  set_there (x ∷ xs) zero v h = refl
  set_there (x ∷ xs) (suc i) v h = set_there xs i v (omega (arith, h))

  -- ---- what is picked

  pub picked_same : (T U : List A) (ns : List ℕ) → ((n : ℕ) → is_among ns n ≡ true → slice_get T n ≡ slice_get U n) → picked T ns ≡ picked U ns
  picked_same T U [] h = refl
  picked_same T U (n ∷ ns) h =
      let first : slice_get T n ≡ slice_get U n = h n (among_first n ns) in
      let rest = picked_same T U ns (λ k e. h k (among_rest n ns k e)) in
      rw (first, rest) refl

  pub picked_count : (T : List A) (ns : List ℕ) → AllByRecursion (λ n. n < length T) ns → length (picked T ns) ≡ length ns
  picked_count T [] h = refl
  picked_count T (n ∷ ns) h = let x = slice_get-there T n h.0 in rw x.1 (ap suc (picked_count T ns h.1))

  pub picked_none : (T : List A) (ns : List ℕ) → AllByRecursion (λ n. length T ≤ n) ns → picked T ns ≡ []
  picked_none T [] h = refl
  picked_none T (n ∷ ns) h = rw (get_none T n h.0) (picked_none T ns h.1)

  pub picked_all : (P : A → Type 0) (T : List A) (ns : List ℕ) → ((n : ℕ) (x : A) → slice_get T n ≡ Some x → P x) → AllByRecursion P (picked T ns)
  picked_all P T [] h = tt
  picked_all P T (n ∷ ns) h = one (slice_get T n) refl (picked_all P T ns h)
    where
      one : (o : Option A) → slice_get T n ≡ o → AllByRecursion P (picked T ns) → AllByRecursion P (picked T (n ∷ ns))
      one None e rest = rw e rest
      one (Some x) e rest = rw e ((h n x e, rest))
