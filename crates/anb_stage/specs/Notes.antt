-- What a relay tells of as it goes on: what its children say and hear.
use Rattle.std.specs.Prelude.{◌≡◌, ℕ, ◌+◌, ◌≤◌, Bool, true, false, List, [], ◌∷◌, ◌++◌, length, take, slice_get, Option, Some, None, IfSome, option_and_then}
use Rattle.std.specs.Option.{option_map_or}
use Rattle.anb_base.specs.declared.TheConstants.{ARRIVAL}
use Rattle.anb_base.specs.declared.content.Sent.{Sent}
use Rattle.anb_frame.specs.Cuts.{Tail, CutLeft}
use Rattle.anb_stage.specs.Children.{Child}
use Rattle.anb_stage.specs.Relays.{AreCut, bytes_of, report}
use Rattle.anb_stage.specs.declared.ends.Ends.{Ends}
use Rattle.anb_stage.specs.declared.refusal.RelayNo.{RelayNo}
use Rattle.anb_stage.specs.declared.refusal.RelayNo.TheVariants as no

-- a role's child heard the message of this action, or said it
pub record Note : Type 0 where
  pub action : ℕ
  pub role : ℕ
  pub heard : Bool
  pub bytes : List ℕ

abbrev pub said_note : (action role : ℕ) → List ℕ → Note
said_note action role bytes = record { action = action; role = role; heard = false; bytes = bytes }

abbrev pub heard_note : (action role : ℕ) → List ℕ → Note
heard_note action role bytes = record { action = action; role = role; heard = true; bytes = bytes }

-- a message that is handed on is said, and then heard
abbrev pub both_notes : Ends → Sent → List Note
both_notes a s = said_note s.action a.from s.bytes ∷ heard_note s.action a.to s.bytes ∷ []

-- those of the first actions, whose messages these are
abbrev pub notes_of : List Ends → List Sent → List Note
notes_of actions [] = []
notes_of [] (s ∷ sent) = []
notes_of (a ∷ actions) (s ∷ sent) = both_notes a s ++ notes_of actions sent

-- that of a message of this action which its sender alone said, where there is one
abbrev pub alone : (action from : ℕ) → Option (List ℕ) → List Note
alone action from None = []
alone action from (Some bytes) = said_note action from bytes ∷ []

-- A message that nobody heard was said only where a call for a child failed.
abbrev pub MaySay : RelayNo → Option (List ℕ) → Type 0
MaySay (no.Fault role) said = Unit {0}
MaySay refusal said = said ≡ None

-- a message that is missing is that of this action
abbrev pub IsOfAction : ℕ → RelayNo → Type 0
IsOfAction action (no.Ended at) = at ≡ action
IsOfAction action (no.Cut at have need) = at ≡ action
IsOfAction action (no.Long at len) = at ≡ action
IsOfAction action refusal = Unit {0}

-- What is told of an action that is refused, by what the log may become. A message that is said is the
-- first of what was left of its sender's output.
pub record TellsAlone (After : List Note → Type 0) (left : Option (List ℕ)) (action from : ℕ)
    (refusal : RelayNo) : Type 0 where
  pub said : Option (List ℕ)
  pub after : After (alone action from said)
  pub may : MaySay refusal said
  pub at : IsOfAction action refusal
  pub first : (bs : List (List ℕ)) (tail : Tail) → CutLeft ARRIVAL left bs tail
      → IfSome said (λ b. (rest : List (List ℕ)) × (bs ≡ b ∷ rest))

module _ (actions : List Ends) where
  -- how many messages were handed on with each refusal: all before the one that is missing, and all where
  -- a child ended badly
  abbrev pub IsCount : RelayNo → ℕ → Type 0
  IsCount (no.Ended action) count = count + 1 ≡ action
  IsCount (no.Cut action have need) count = count + 1 ≡ action
  IsCount (no.Long action len) count = count + 1 ≡ action
  IsCount (no.Bad role status) count = count ≡ length actions
  IsCount refusal count = count ≤ length actions

  -- that of the next message behind so many, where its sender said it
  abbrev pub next_alone : (count : ℕ) → Option (List ℕ) → List Note
  next_alone count said =
      option_map_or (λ (a : Ends). alone (count + 1) a.from said) (slice_get actions count) []

  -- the messages are the first of those that the outputs hold, and one that nobody heard is the next
  pub record AreFirst (outputs : ℕ → List (List ℕ)) (sent : List Sent) (said : Option (List ℕ)) : Type 0 where
    pub sent_is : sent ≡ report outputs (take (length sent) actions)
    pub said_is : IfSome said (λ b. option_and_then (bytes_of outputs (take (length sent) actions))
        (slice_get actions (length sent)) ≡ Some b)

  -- What is told of a relay that is refused, among children of so many roles: of these messages, which were
  -- handed on, and perhaps of one more that its sender said.
  pub record IsTold (roles : ℕ) (children : ℕ → Child) (refusal : RelayNo) (told : List Note) : Type 0 where
    pub sent : List Sent
    pub said : Option (List ℕ)
    pub are : told ≡ notes_of actions sent ++ next_alone (length sent) said
    pub count : IsCount refusal (length sent)
    pub may : MaySay refusal said
    pub first : (outputs : ℕ → List (List ℕ)) (tails : ℕ → Tail) → AreCut roles children outputs tails
        → AreFirst outputs sent said
