-- A run, act by act.
use Rattle.std.specs.Prelude.{◌≡◌, ℕ, ◌+◌, List, [], ◌∷◌, ◌++◌, take, Option, Some, None, option_map, option_and_then, slice_get}
use Rattle.anb_term.specs.Value.{Meaning}
use Rattle.anb_plays.specs.Codes.{Act, takes, draws, receives, sends, works}
use Rattle.anb_plays.specs.Exec.{worked}

-- how far a run is: the registers that are written, the messages that were sent, how many sends and receives there were,
-- how many values were drawn, and what arrives yet
pub record Progress (A : Type 0) : Type 0 where
  pub table : List A
  pub sent : List A
  pub event : ℕ
  pub drawn : ℕ
  pub left : List A

abbrev pub begun : {A : Type 0} → (known arrivals : List A) → Progress A
begun known arrivals = record { table = known; sent = []; event = 0; drawn = 0; left = arrivals }

-- these are written into the next registers
abbrev pub writing : {A : Type 0} → List A → Progress A → Progress A
writing ws s = record s { table = s.table ++ ws }

abbrev pub drawing : {A : Type 0} → A → Progress A → Progress A
drawing x s = record s { table = s.table ++ x ∷ []; drawn = s.drawn + 1 }

abbrev pub saying : {A : Type 0} → A → Progress A → Progress A
saying x s = record s { sent = s.sent ++ x ∷ []; event = s.event + 1 }

-- what arrives next is written, where something does
abbrev pub hearing : {A : Type 0} → List A → Progress A → Option (Progress A)
hearing [] s = None
hearing (x ∷ left) s = Some (record s { table = s.table ++ x ∷ []; event = s.event + 1; left = left })

-- with these values to draw
module _ {A : Type 0} (m : Meaning A) (made : List A) where
  -- a run one act further, where it goes on
  abbrev pub after : Act → Progress A → Option (Progress A)
  after takes s = Some s
  after draws s = option_map (λ x. drawing x s) (slice_get made s.drawn)
  after receives s = hearing s.left s
  after (sends r) s = option_map (λ x. saying x s) (slice_get s.table r)
  after (works w) s = option_map (λ ws. writing ws s) (worked m s.table w)

  -- and all these acts further
  abbrev pub after_all : List Act → Progress A → Option (Progress A)
  after_all [] s = Some s
  after_all (act ∷ acts) s = option_and_then (after_all acts) (after act s)

  -- these acts go on up to the one at this place, and not by it
  pub record StopsAt (acts : List Act) (s : Progress A) (place : ℕ) : Type 0 where
    pub act : Act
    pub here : slice_get acts place ≡ Some act
    pub reached : Progress A
    pub comes : after_all (take place acts) s ≡ Some reached
    pub stuck : after act reached ≡ None
