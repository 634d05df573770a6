-- What a spawner tells of the child of each role, and what each of its calls changes.
use Rattle.std.specs.Prelude.{◌≡◌, ◌≢◌, ℕ, Bool, zero, suc, ◌+◌, List, [], ◌∷◌, ◌++◌, length, flat_map, decimal, Option, Some, None}
use Rattle.std.specs.Option.{option_map_or}

-- The bytes that are left of its output; for each byte that was read of it, in order, how many bytes
-- had been written to all children by then; the bytes that were written to it, what was asked of it,
-- as words, each with a line feed, and the status with which it ends: each may be untold. How often
-- a call for it has failed, up to the last value of a u64, and whether the last such call failed since
-- it was silent for too long. Its phase is 0 before it was started, 1 once it was, and 2 once it was
-- finished.
pub record Child : Type 0 where
  pub left : Option (List ℕ)
  pub taken_at : Option (List ℕ)
  pub written : Option (List ℕ)
  pub asked : Option (List ℕ)
  pub status : Option ℕ
  pub faults : ℕ
  pub silent : Bool
  pub phase : ℕ

-- how many bytes are written to the first so many of these inputs; none to one that isn't told
unfoldable pub written_below : ℕ → (ℕ → Option (List ℕ)) → ℕ
written_below zero inputs = 0
written_below (suc n) inputs = option_map_or length (inputs n) 0 + written_below n inputs

-- how many bytes are written to all children
abbrev pub written_to_all : (ℕ → Child) → ℕ
written_to_all children = written_below 32 (λ role. (children role).written)

-- each word and a line feed
abbrev pub lines : List (List ℕ) → List ℕ
lines words = flat_map (λ word. word ++ 10 ∷ []) words

-- for how many seconds a child may be silent, as a word: one without bytes where there is no limit
abbrev pub limit_word : Option ℕ → List ℕ
limit_word None = []
limit_word (Some seconds) = decimal seconds

-- what is asked of a child: the words of its program, where it isn't the spawner's own, that limit, and
-- the words behind those of the program
abbrev pub asked_words : Option ℕ → (program words : List (List ℕ)) → List (List ℕ)
asked_words limit program words = program ++ limit_word limit ∷ words

-- What a call leaves of its role's child. Of the count of faults each call says itself that it
-- doesn't fall.
pub record KeptByStart (old new : Child) : Type 0 where
  pub left : new.left ≡ old.left
  pub taken_at : new.taken_at ≡ old.taken_at
  pub written : new.written ≡ old.written
  pub status : new.status ≡ old.status

pub record KeptByRead (old new : Child) : Type 0 where
  pub written : new.written ≡ old.written
  pub asked : new.asked ≡ old.asked
  pub status : new.status ≡ old.status
  pub phase : new.phase ≡ old.phase

pub record KeptByWrite (old new : Child) : Type 0 where
  pub left : new.left ≡ old.left
  pub taken_at : new.taken_at ≡ old.taken_at
  pub asked : new.asked ≡ old.asked
  pub status : new.status ≡ old.status
  pub phase : new.phase ≡ old.phase

pub record KeptByFinish (old new : Child) : Type 0 where
  pub taken_at : new.taken_at ≡ old.taken_at
  pub written : new.written ≡ old.written
  pub asked : new.asked ≡ old.asked
  pub status : new.status ≡ old.status

-- the words and the phase, which a start that failed leaves too
pub record IsUnstarted (old new : Child) : Type 0 where
  pub asked : new.asked ≡ old.asked
  pub phase : new.phase ≡ old.phase

-- the children of all other roles are as before
abbrev pub OthersStay : ℕ → (old new : ℕ → Child) → Type 0
OthersStay role old new = (other : ℕ) → other ≢ role → new other ≡ old other
