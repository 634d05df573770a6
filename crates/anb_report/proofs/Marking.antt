-- Marks by number: what was marked is what stands in a list.
use Rattle.std.proofs.Common.{◌≡◌, ℕ, zero, suc, ◌+◌, ◌≤◌, ◌<◌, ◌⊎◌, inl, inr, List, [], ◌∷◌, ◌++◌, Bool, true, false, cond, get_or, length, replicate, refl, sym, ap, ◌∙◌, arith}
use Rattle.std.specs.Prelude.{◌||◌, filter, slice_get, slice_set, Some}
use Rattle.std.specs.List.{AllByRecursion, list_any, range_with_len}
use Rattle.std.specs.Str.{bytes_eq}
use Rattle.std.proofs.lemmas.Bool.{cases_lt}
use Rattle.std.proofs.lemmas.List.{length-replicate, set_past}
use Rattle.std.proofs.lemmas.Slice.Eq.{bytes_eq-Decides}
use Rattle.anb_lemmas.proofs.Bools.{or_false, or_true}
use Rattle.anb_lemmas.proofs.Lists.{unflagged}
use Rattle.anb_protocol.specs.Seen.{marked}
use Rattle.anb_protocol.proofs.SeenLemmas.{flag-marked, length-marked}
use Rattle.anb_report.specs.Looking.{is_among, repeated}

pub marked_both : (marks : List Bool) (xs ys : List ℕ) → marked marks (xs ++ ys) ≡ marked (marked marks xs) ys
marked_both marks [] ys = refl
marked_both marks (x ∷ xs) ys = marked_both (slice_set marks x true) xs ys

-- what is marked is among the ones that were to be marked
pub mark_tells : (n i : ℕ) (xs : List ℕ) → i < n → get_or (marked (replicate n false) xs) i true ≡ is_among xs i
mark_tells n i xs h = flag-marked (replicate n false) xs i ∙ ap (λ v. is_among xs i || v) (unflagged n i h) ∙ or_false (is_among xs i)

pub role_there : (roles : List (List ℕ)) (i : ℕ) (name : List ℕ) → slice_get roles i ≡ Some name → list_any (λ y. bytes_eq y name) roles ≡ true
role_there [] i name e = cc
role_there (y ∷ roles) zero name e =
    let s : y ≡ name = cc in
    ap (λ b. b || list_any (λ y. bytes_eq y name) roles) ((bytes_eq-Decides y name).1 s)
role_there (y ∷ roles) (suc i) name e = ap (λ b. bytes_eq y name || b) (role_there roles i name e) ∙ or_true (bytes_eq y name)

pub mark_is : (used : List Bool) (n i : ℕ) (xs : List ℕ) (mark : Bool) → used ≡ marked (replicate n false) xs → i < n → mark ≡ get_or used i true → mark ≡ is_among xs i
mark_is used n i xs mark are h e = e ∙ ap (λ l. get_or l i true) are ∙ mark_tells n i xs h

set_both : (marks : List Bool) (x y : ℕ) → slice_set (slice_set marks y true) x true ≡ slice_set (slice_set marks x true) y true
set_both [] x y = refl
set_both (b ∷ marks) zero zero = refl
set_both (b ∷ marks) zero (suc y) = refl
set_both (b ∷ marks) (suc x) zero = refl
set_both (b ∷ marks) (suc x) (suc y) = ap (λ l. b ∷ l) (set_both marks x y)

-- the first one, marked last
pub mark_first : (marks : List Bool) (x : ℕ) (xs : List ℕ) → marked (marked marks xs) (x ∷ []) ≡ marked marks (x ∷ xs)
mark_first marks x [] = refl
mark_first marks x (y ∷ xs) = mark_first (slice_set marks y true) x xs ∙ ap (λ m. marked m xs) (set_both marks x y)

-- ---- two tests that tell the same of each number that has a mark

pub mark_same : (marks : List Bool) (x : ℕ) (a b : Bool) → (x < length marks → a ≡ b) → marked marks (cond a (x ∷ []) []) ≡ marked marks (cond b (x ∷ []) [])
mark_same marks x a b same = by (cases_lt x (length marks)) where
  past : (c : Bool) → length marks ≤ x → marked marks (cond c (x ∷ []) []) ≡ marks
  past true h = set_past marks x true h
  past false h = refl

  by : (x < length marks) ⊎ (length marks ≤ x) → marked marks (cond a (x ∷ []) []) ≡ marked marks (cond b (x ∷ []) [])
  by (inl h) = ap (λ c. marked marks (cond c (x ∷ []) [])) (same h)
  by (inr h) = past a h ∙ sym (past b h)

pub filter_first : (marks : List Bool) (x : ℕ) (b : Bool) (xs : List ℕ) → marked marks (cond b (x ∷ xs) xs) ≡ marked (marked marks (cond b (x ∷ []) [])) xs
filter_first marks x true xs = refl
filter_first marks x false xs = refl

pub filter_same : (p q : ℕ → Bool) (marks : List Bool) (xs : List ℕ) → ((x : ℕ) → x < length marks → p x ≡ q x) → marked marks (filter p xs) ≡ marked marks (filter q xs)
filter_same p q marks [] same = refl
filter_same p q marks (x ∷ xs) same =
    let next = marked marks (cond (q x) (x ∷ []) []) in
    let long : length next ≡ length marks = length-marked marks (cond (q x) (x ∷ []) []) in
    filter_first marks x (p x) (filter p xs) ∙ ap (λ m. marked m (filter p xs)) (mark_same marks x (p x) (q x) (same x))
    ∙ filter_same p q next xs (λ y h. same y (omega (arith, h, long))) ∙ sym (filter_first marks x (q x) (filter q xs))

pub range_same : (p q : ℕ → Bool) (a n : ℕ) → ((x : ℕ) → x < a + n → p x ≡ q x) → filter p (range_with_len a n) ≡ filter q (range_with_len a n)
range_same p q a zero same = refl
range_same p q a (suc n) same =
    let xs = range_with_len (a + 1) n in
    ap (λ b. cond b (a ∷ filter p xs) (filter p xs)) (same a (omega arith)) ∙ ap (λ l. cond (q a) (a ∷ l) l) (range_same p q (a + 1) n (λ x h. same x (omega (arith, h))))

pub any_same : (p q : ℕ → Bool) (n : ℕ) (xs : List ℕ) → ((x : ℕ) → x < n → p x ≡ q x) → AllByRecursion (λ x. x < n) xs → list_any p xs ≡ list_any q xs
any_same p q n [] same h = refl
any_same p q n (x ∷ xs) same h = ap (λ b. b || list_any p xs) (same x h.0) ∙ ap (λ b. q x || b) (any_same p q n xs same h.1)

-- ---- what stands in a list more than once

pub marks_again : (n x : ℕ) (xs : List ℕ) → marked (marked (replicate n false) (repeated xs)) (cond (get_or (marked (replicate n false) xs) x true) (x ∷ []) []) ≡ marked (replicate n false) (repeated (x ∷ xs))
marks_again n x xs =
    let blank = replicate n false in
    let long : length (marked blank (repeated xs)) ≡ n = length-marked blank (repeated xs) ∙ length-replicate n false in
    mark_same (marked blank (repeated xs)) x (get_or (marked blank xs) x true) (is_among xs x) (λ h. mark_tells n x xs (omega (arith, h, long)))
    ∙ sym (marked_both blank (repeated xs) (cond (is_among xs x) (x ∷ []) []))

pub filter_one : (p : ℕ → Bool) (x : ℕ) (xs : List ℕ) → cond (p x) (x ∷ []) [] ++ filter p xs ≡ filter p (x ∷ xs)
filter_one p x xs = by (p x) where
  by : (b : Bool) → cond b (x ∷ []) [] ++ filter p xs ≡ cond b (x ∷ filter p xs) (filter p xs)
  by true = refl
  by false = refl
