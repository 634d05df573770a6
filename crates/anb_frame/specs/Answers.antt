-- What the answers of `take` say: of the bytes that were taken and when, and of the cut of those
-- that were left.
use Rattle.std.specs.Prelude.{ℕ, ◌≡◌, ◌<◌, ◌≤◌, List, [], ◌∷◌, length, take, Option, Result, Ok, Err}
use Rattle.anb_base.specs.Moves.{Took, AtEnd, Stamped}
use Rattle.anb_frame.specs.Frames.{frame, length_bytes, IsPart, IsFrameLength}
use Rattle.anb_frame.specs.Cuts.{Tail, End, Short, Long, Ends, CutLeft}
use Rattle.anb_frame.specs.declared.Taken.{Taken}
use Rattle.anb_frame.specs.declared.Taken.TheVariants as taken
use Rattle.anb_frame.specs.declared.FrameNo.{FrameNo}
use Rattle.anb_frame.specs.declared.FrameNo.TheVariants.{Truncated, TooLarge, Failed}

-- what was left and is left now, when each byte was taken until then and until now, and how many
-- bytes are written meanwhile
module _ (left now taken_at taken_at_now : Option (List ℕ)) (written : ℕ) where
  -- these bytes were taken, each of them when so many were written
  abbrev pub TookAt : List ℕ → Type 0
  TookAt bytes = Took left now bytes × Stamped taken_at taken_at_now written (length bytes)

  -- what was taken where the buffer has room bytes and then holds buf
  abbrev pub Takes : (room : ℕ) → (buf : List ℕ) → Result Taken FrameNo → Type 0
  Takes room buf (Ok (taken.Frame n)) = (n ≤ room) × TookAt (frame (take n buf))
  Takes room buf (Ok taken.End) = (now ≡ left) × (taken_at_now ≡ taken_at) × AtEnd left
  Takes room buf (Err (Truncated have need)) =
      (z : List ℕ) × TookAt z × AtEnd now × Ends room z (Short have need)
  Takes room buf (Err (TooLarge len)) = (room < len) × IsFrameLength len × TookAt (length_bytes len)
  Takes room buf (Err Failed) = (z : List ℕ) × (need : ℕ) × TookAt z × IsPart room z need

-- what the answer is, where what was left had the cut of bs and tail
abbrev pub Follows :
    ℕ → List (List ℕ) → Tail → Option (List ℕ) → List ℕ → Result Taken FrameNo → Type 0
Follows room bs tail new buf (Ok (taken.Frame n)) =
    (rest : List (List ℕ)) × (bs ≡ take n buf ∷ rest) × CutLeft room new rest tail
Follows room bs tail new buf (Ok taken.End) = (bs ≡ []) × (tail ≡ End)
Follows room bs tail new buf (Err (Truncated have need)) = (bs ≡ []) × (tail ≡ Short have need)
Follows room bs tail new buf (Err (TooLarge len)) = (bs ≡ []) × (tail ≡ Long len)
Follows room bs tail new buf (Err Failed) = Unit {0}

-- a fact for the answer of a fault alone
abbrev pub OnFailed : Result Taken FrameNo → Type 0 → Type 0
OnFailed (Ok t) P = Unit {0}
OnFailed (Err (Truncated have need)) P = Unit {0}
OnFailed (Err (TooLarge len)) P = Unit {0}
OnFailed (Err Failed) P = P

-- a fact for every other answer
abbrev pub UnlessFailed : Result Taken FrameNo → Type 0 → Type 0
UnlessFailed (Ok t) P = P
UnlessFailed (Err (Truncated have need)) P = P
UnlessFailed (Err (TooLarge len)) P = P
UnlessFailed (Err Failed) P = Unit {0}
