-- A length in four bytes.
use Rattle.std.proofs.Common.{◌≡◌, ◌+◌, ◌<◌, ◌≤◌, ◌^◌, ℕ, List, ◌++◌, length, take, drop, refl, sym, ap, ◌∙◌, arith}
use Rattle.std.specs.Int.{w32, from_be_bytes}
use Rattle.std.proofs.Math.Seq.{take-append-add}
use Rattle.std.proofs.lemmas.Nat.{from_be_bytes-to_be_bytes_4}
use Rattle.std.proofs.lemmas.List.{take_at, drop_at, take_all}
use Rattle.anb_frame.specs.Frames.{length_bytes}

pub length-length_bytes : (n : ℕ) → length (length_bytes n) ≡ 4
unfolding length_bytes
length-length_bytes n = refl

-- the front of a frame that holds its length and some bytes
pub take-length_bytes : (n k : ℕ) (bytes : List ℕ) → take (4 + k) (length_bytes n ++ bytes) ≡ length_bytes n ++ take k bytes
take-length_bytes n k bytes = ap (λ (i : ℕ). take (i + k) (length_bytes n ++ bytes)) (sym (length-length_bytes n)) ∙ take-append-add (length_bytes n) bytes k

pub from-length_bytes : (n : ℕ) → n < 2 ^ 32 → from_be_bytes w32 (length_bytes n) ≡ n
unfolding length_bytes
from-length_bytes n h = from_be_bytes-to_be_bytes_4 n h

-- the length and what follows it are read in one way
pub same_length_bytes : (n m : ℕ) (xs ys : List ℕ) → n < 2 ^ 32 → m < 2 ^ 32 → length_bytes n ++ xs ≡ length_bytes m ++ ys → (n ≡ m) × (xs ≡ ys)
same_length_bytes n m xs ys h k e =
    let front : length_bytes n ≡ length_bytes m = sym (take_at (length_bytes n) xs 4 (length-length_bytes n)) ∙ ap (take 4) e ∙ take_at (length_bytes m) ys 4 (length-length_bytes m) in
    (sym (from-length_bytes n h) ∙ ap (from_be_bytes w32) front ∙ from-length_bytes m k, sym (drop_at (length_bytes n) xs 4 (length-length_bytes n)) ∙ ap (drop 4) e ∙ drop_at (length_bytes m) ys 4 (length-length_bytes m))

-- four bytes or more of those that are a length
pub whole_length : (n have : ℕ) (head : List ℕ) → length_bytes n ≡ head → 4 ≤ have → take have head ≡ length_bytes n
whole_length n have head e four = rw (sym e) (take_all have (length_bytes n) (omega (arith, length-length_bytes n)))
