-- How a whole input is cut into frames: a relation on inputs, whatever pieces they come in.
use Rattle.std.specs.Prelude.{ℕ, ◌≡◌, ◌<◌, ◌≤◌, List, [], ◌++◌, length, Option, Some, None, All}
use Rattle.anb_base.specs.Bytes.{IsBytes}
use Rattle.anb_frame.specs.Frames.{frames, length_bytes, IsPart, IsFrameLength}

-- how an input ends after its last whole frame
pub data Tail : Type 0 where
  -- there
  End : Tail
  -- within a frame, of which this many bytes are there, and this many are needed
  Short : (have need : ℕ) → Tail
  -- in a frame whose length is above the limit
  Long : (len : ℕ) → Tail

-- z is what such a tail stands for
abbrev pub Ends : ℕ → List ℕ → Tail → Type 0
Ends limit z End = z ≡ []
Ends limit z (Short have need) = (0 < length z) × (length z ≡ have) × IsPart limit z need
Ends limit z (Long len) =
    (rest : List ℕ) × (z ≡ length_bytes len ++ rest) × (limit < len) × IsFrameLength len

-- x is the frames of bs, each of at most limit bytes, and then the tail
abbrev pub Cut : ℕ → List ℕ → List (List ℕ) → Tail → Type 0
Cut limit x bs tail =
    (z : List ℕ) × (x ≡ frames bs ++ z) × All (λ b. length b ≤ limit) bs × Ends limit z tail

-- each input has a cut
abbrev pub HasCut : ℕ → Type 0
HasCut limit =
    (x : List ℕ) → IsBytes x → (bs : List (List ℕ)) × (tail : Tail) × Cut limit x bs tail

-- and no second one
abbrev pub HasOneCut : ℕ → Type 0
HasOneCut limit =
    (x : List ℕ) (bs cs : List (List ℕ)) (tail other : Tail)
    → Cut limit x bs tail → Cut limit x cs other → (bs ≡ cs) × (tail ≡ other)

-- the bytes that are left are told, and have this cut
abbrev pub CutLeft : ℕ → Option (List ℕ) → List (List ℕ) → Tail → Type 0
CutLeft limit None bs tail = ⊥
CutLeft limit (Some left) bs tail = Cut limit left bs tail
