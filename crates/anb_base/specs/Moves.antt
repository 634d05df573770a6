-- What a read and a write do to the bytes that are told, and when a fault may be answered.
use Rattle.std.specs.Prelude.{◌≡◌, ℕ, ◌<◌, ◌≤◌, ◌-◌, ◌^◌, ◌⊎◌, List, [], ◌∷◌, ◌++◌, length, take, replicate, Option, Some, None}

-- the last value of a u64, at which a count of faults stays
abbrev pub last_count : ℕ
last_count = 2 ^ 64 - 1

-- the count of faults rose, or stands at its last value
abbrev pub Rose : ℕ → ℕ → Type 0
Rose before now = (before < now) ⊎ (now ≡ last_count)

-- these bytes were taken from the front of what was left
abbrev pub Took : Option (List ℕ) → Option (List ℕ) → List ℕ → Type 0
Took None new bytes = new ≡ None
Took (Some old) None bytes = ⊥
Took (Some old) (Some new) bytes = old ≡ bytes ++ new

-- where the bytes are told, none are left
abbrev pub AtEnd : Option (List ℕ) → Type 0
AtEnd None = Unit {0}
AtEnd (Some left) = left ≡ []

-- these bytes, or numbers, were put at the end
abbrev pub Put : Option (List ℕ) → Option (List ℕ) → List ℕ → Type 0
Put None new bytes = new ≡ None
Put (Some old) new bytes = new ≡ Some (old ++ bytes)

-- a prefix of these bytes was put at the end of what was written
abbrev pub PutPrefix : Option (List ℕ) → Option (List ℕ) → List ℕ → Type 0
PutPrefix old new bytes = (n : ℕ) × (n ≤ length bytes) × Put old new (take n bytes)

-- how many bytes are written, by what stands beside a source; 0 where that isn't told
abbrev pub count_written : List (Option (List ℕ) × ℕ) → ℕ
count_written [] = 0
count_written ((None, faults) ∷ others) = 0
count_written ((Some written, faults) ∷ others) = length written

-- so many bytes more were taken, each of them when so many were written
abbrev pub Stamped : (old new : Option (List ℕ)) → (written n : ℕ) → Type 0
Stamped old new written n = Put old new (replicate n written)

-- fewer bytes than this were taken, and all of them when so many were written
abbrev pub TookLess :
    (left now taken_at taken_at_now : Option (List ℕ)) → (written size : ℕ) → Type 0
TookLess left now taken_at taken_at_now written size =
    (bytes : List ℕ) × (length bytes < size) × Took left now bytes
    × Stamped taken_at taken_at_now written (length bytes)
