-- What the law of what is taken unchecked asks of a code, act by act.
use Rattle.std.proofs.Common.{◌≡◌, ℕ, ◌+◌, ◌≤◌, ◌<◌, List, [], ◌∷◌, ◌++◌, Bool, true, false}
use Rattle.anb_plays.specs.Codes.{Act, takes, draws, receives, sends, works, Work, make, undo, equal}
use Rattle.anb_plays.specs.Exec.{count_written}
use Rattle.anb_report.specs.Looking.{is_among}

-- what a work opens
abbrev pub opens : Work → List ℕ
opens (make o ns) = []
opens (undo o ks n) = n ∷ []
opens (equal a b) = []

-- registers that are looked at as a whole, that came with an arrival or with what was taken apart, and that aren't
-- changed
module _ (whole brought fixed : ℕ → Bool) where
  -- a built register didn't come, and where it is looked at so is what it is built of
  pub record MakesWell (ns : List ℕ) (next : ℕ) : Type 0 where
    pub own : brought next ≡ false
    pub operands : whole next ≡ true → (k : ℕ) → is_among ns k ≡ true → whole k ≡ true

  -- keys are looked at. What is opened isn't changed; where it is looked at so are its parts, else it came, and nothing
  -- before opened it
  pub record UndoesWell (ks : List ℕ) (n next count : ℕ) (before : List ℕ) : Type 0 where
    pub keys : (k : ℕ) → is_among ks k ≡ true → whole k ≡ true
    pub kept : fixed n ≡ true
    pub parts : whole n ≡ true → (r : ℕ) → next ≤ r → r < next + count → whole r ≡ true
    pub came : whole n ≡ false → brought n ≡ true
    pub first : whole n ≡ false → is_among before n ≡ false

  -- what is compared is looked at
  pub record ComparesWell (a b : ℕ) : Type 0 where
    pub one : whole a ≡ true
    pub other : whole b ≡ true

  abbrev pub WorksWell : Work → (next : ℕ) → (before : List ℕ) → Type 0
  WorksWell (make o ns) next before = MakesWell ns next
  WorksWell (undo o ks n) next before = UndoesWell ks n next (count_written (undo o ks n)) before
  WorksWell (equal a b) next before = ComparesWell a b

  -- acts behind the takes, with the next register, and what the acts before opened
  abbrev pub Walks : List Act → (next : ℕ) → (before : List ℕ) → Type 0
  Walks [] next before = Unit {0}
  Walks (takes ∷ acts) next before = ⊥
  Walks (draws ∷ acts) next before = (brought next ≡ false) × Walks acts (next + 1) before
  Walks (receives ∷ acts) next before = Walks acts (next + 1) before
  Walks (sends r ∷ acts) next before = Walks acts next before
  Walks (works w ∷ acts) next before = WorksWell w next before × Walks acts (next + count_written w) (before ++ opens w)
