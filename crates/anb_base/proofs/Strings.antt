-- Lists of bytes.
use Rattle.std.proofs.Common.{ℕ, suc, zero, List, [], ◌∷◌, ◌++◌, arith, ◌<◌, inl, inr, take, lit<, ◌+◌, drop}
use Rattle.std.proofs.lemmas.Bool.{cases_lt}
use Rattle.std.proofs.lemmas.List.{get_or-take, get_or_past, length-take, get_or-drop}
use Rattle.anb_base.specs.Bytes.{IsBytes}

pub bytes_left : (xs ys : List ℕ) → IsBytes (xs ++ ys) → IsBytes xs
bytes_left [] ys bytes i = omega arith
bytes_left (x ∷ xs) ys bytes zero = bytes 0
bytes_left (x ∷ xs) ys bytes (suc i) = bytes_left xs ys (λ j. bytes (suc j)) i

pub bytes_right : (xs ys : List ℕ) → IsBytes (xs ++ ys) → IsBytes ys
bytes_right [] ys bytes = bytes
bytes_right (x ∷ xs) ys bytes = bytes_right xs ys (λ i. bytes (suc i))

pub take_bytes : (n : ℕ) (x : List ℕ) → IsBytes x → IsBytes (take n x)
take_bytes n x bytes i = elim (cases_lt i n) [
  | inl h ↦ rw (get_or-take n x i 0 h) (bytes i)
  | inr h ↦ rw (get_or_past (take n x) i 0 (omega (arith, length-take {A = ℕ}))) (lit< tt)
]

pub drop_bytes : (n : ℕ) (x : List ℕ) → IsBytes x → IsBytes (drop n x)
drop_bytes n x bytes i = rw (get_or-drop n x i 0) (bytes (n + i))

pub with_byte : (b : ℕ) (rest : List ℕ) → b < 256 → IsBytes rest → IsBytes (b ∷ rest)
with_byte b rest small all zero = small
with_byte b rest small all (suc i) = all i
