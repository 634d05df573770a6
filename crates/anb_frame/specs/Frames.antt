-- Frames on a stream of bytes.
use Rattle.std.specs.Prelude.{ℕ, ◌≡◌, ◌<◌, ◌≤◌, ◌+◌, ◌^◌, ◌⊎◌, List, ◌++◌, length}
use Rattle.std.specs.List.{flat_map}
use Rattle.std.specs.Int.{w32, to_be_bytes}

-- a length in four bytes, the most significant first
unfoldable pub length_bytes : ℕ → List ℕ
length_bytes n = to_be_bytes w32 n

-- four bytes hold this length
abbrev pub IsFrameLength : ℕ → Type 0
IsFrameLength n = n < 2 ^ 32

abbrev pub frame : List ℕ → List ℕ
frame b = length_bytes (length b) ++ b

abbrev pub frames : List (List ℕ) → List ℕ
frames bs = flat_map frame bs

-- less than a length, or a length of at most the limit and fewer bytes than it says; a whole frame
-- that begins so has this many bytes, at the least
abbrev pub IsPart : ℕ → List ℕ → ℕ → Type 0
IsPart limit z need =
    ((length z < 4) × (need ≡ 4))
    ⊎ ((n : ℕ) × (body : List ℕ) × (z ≡ length_bytes n ++ body)
    × (n ≤ limit) × (length body < n) × (need ≡ 4 + n))
