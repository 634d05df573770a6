-- Which lists of numbers are strings of bytes.
use Rattle.std.specs.Prelude.{◌≡◌, ℕ, ◌<◌, Bool, true, nat_lt, List, [], ◌∷◌, slice_index, suc, zero, refl}
use Rattle.std.proofs.Common.{arith}
use Rattle.std.specs.List.{list_all}

-- each number is below 256
abbrev pub IsBytes : List ℕ → Type 0
IsBytes xs = (i : ℕ) → slice_index xs i < 256

-- the same as a test
abbrev pub is_bytes : List ℕ → Bool
is_bytes xs = list_all (λ b. nat_lt b 256) xs

-- what passes the test is a string of bytes
pub IsBytes-pass : (xs : List ℕ) → is_bytes xs ≡ true → IsBytes xs
IsBytes-pass [] passes i = omega arith
IsBytes-pass (x ∷ xs) passes zero = grind (arith, passes)
IsBytes-pass (x ∷ xs) passes (suc i) = IsBytes-pass xs (grind (arith, passes)) i

-- a string of bytes passes the test
pub is_bytes-IsBytes : (xs : List ℕ) → IsBytes xs → is_bytes xs ≡ true
is_bytes-IsBytes [] bytes = refl
is_bytes-IsBytes (x ∷ xs) bytes =
    let rest = is_bytes-IsBytes xs (λ i. bytes (suc i)) in
    let first = bytes 0 in grind arith
