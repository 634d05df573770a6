-- Registers from a first one on, and faults along a list.
use Rattle.std.proofs.Common.{◌≡◌, ◌<◌, ◌+◌, ◌-◌, ◌&&◌, ◌==◌, not, ℕ, zero, suc, nat_lt, nat_le, Bool, false, List, [], ◌∷◌, ◌++◌, length, drop, get_or, refl, sym, ap, ◌∙◌, arith, add-zero, zero-add}
use Rattle.std.specs.List.{list_any, range_with_len, AllByRecursion}
use Rattle.std.specs.Str.{bytes_eq}
use Rattle.std.proofs.lemmas.Bool.Decides.{nat_tests}
use Rattle.std.proofs.lemmas.List.{drop_more}

-- ---- the next registers

pub next_one : (registers : List ℕ) (first k : ℕ) → k < length registers → get_or registers k 0 ≡ first + k
    → bytes_eq (drop k registers) (range_with_len (first + k) (length registers - k)) ≡ bytes_eq (drop (k + 1) registers) (range_with_len (first + (k + 1)) (length registers - (k + 1)))
next_one registers first k h e =
    let left : length registers - k ≡ suc (length registers - (k + 1)) = omega arith in
    let place : first + k + 1 ≡ first + (k + 1) = omega arith in
    rw (drop_more registers k 0 h, left, e, ← place) (grind (arith, nat_tests))

pub not_next : (registers : List ℕ) (first k : ℕ) → k < length registers → (get_or registers k 0 ≡ first + k → ⊥)
    → bytes_eq (drop k registers) (range_with_len (first + k) (length registers - k)) ≡ false
not_next registers first k h n =
    let left : length registers - k ≡ suc (length registers - (k + 1)) = omega arith in
    rw (drop_more registers k 0 h, left) (grind (arith, nat_tests))

-- ---- registers that were written

is_in_range : (n first r : ℕ) → list_any (λ register. register == r) (range_with_len first n) ≡ (nat_le first r && nat_lt r (first + n))
is_in_range zero first r = grind (arith, nat_tests)
is_in_range (suc n) first r =
    let rest = is_in_range n (first + 1) r in
    let place : first + 1 + n ≡ first + suc n = omega arith in
    rw rest (rw place (grind (arith, nat_tests)))

is_out : (n r : ℕ) → not (list_any (λ register. register == r) (range_with_len 0 n)) ≡ nat_le n r
is_out n r = rw (is_in_range n 0 r) (grind (arith, nat_tests))

pub list_any-same : {A : Type 0} (f g : A → Bool) (xs : List A) → ((x : A) → f x ≡ g x) → list_any f xs ≡ list_any g xs
list_any-same f g [] same = refl
list_any-same f g (x ∷ xs) same = rw (same x, list_any-same f g xs same) refl

pub any_unwritten : (n : ℕ) (registers args : List ℕ) → registers ≡ range_with_len 0 n
    → list_any (λ r. not (list_any (λ register. register == r) registers)) args ≡ list_any (nat_le n) args
any_unwritten n registers args is =
    rw is (list_any-same (λ r. not (list_any (λ register. register == r) (range_with_len 0 n))) (nat_le n) args (is_out n))

pub all_written : (n : ℕ) (args : List ℕ) → list_any (nat_le n) args ≡ false → AllByRecursion (λ r. r < n) args
all_written n [] none = tt
all_written n (r ∷ args) none = (grind (arith, nat_tests), all_written n args (grind (arith, nat_tests)))

-- the next registers follow those written
pub range_more : (n first more : ℕ) → range_with_len first n ++ range_with_len (first + n) more ≡ range_with_len first (n + more)
range_more zero first more = rw (add-zero, zero-add) refl
range_more (suc n) first more =
    let place : first + suc n ≡ first + 1 + n = omega arith in
    let count : suc n + more ≡ suc (n + more) = omega arith in
    rw (place, count) (ap (λ xs. first ∷ xs) (range_more n (first + 1) more))

pub range_next : (n more : ℕ) → range_with_len 0 n ++ range_with_len n more ≡ range_with_len 0 (n + more)
range_next n more = let zero_first : 0 + n ≡ n = zero-add n in ap (λ k. range_with_len 0 n ++ range_with_len k more) (sym zero_first) ∙ range_more n 0 more
