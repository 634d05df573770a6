-- What is relayed: the messages of all actions, and the first refusal.
use Rattle.std.specs.Prelude.{◌≡◌, ◌≢◌, ℕ, ◌+◌, ◌<◌, ◌≤◌, ◌==◌, ◌⊎◌, nat_le, if◌then◌else◌, List, [], ◌∷◌, ◌++◌, length, map, filter, replicate, slice_get, Option, Some, None, IfSome, is_none}
use Rattle.std.specs.Option.{option_map_or}
use Rattle.anb_base.specs.Moves.{Put, PutPrefix, Rose}
use Rattle.anb_base.specs.declared.TheConstants.{ARRIVAL}
use Rattle.anb_base.specs.declared.content.Sent.{Sent}
use Rattle.anb_frame.specs.Frames.{frame, frames}
use Rattle.anb_frame.specs.Cuts.{Tail, End, Short, Long, CutLeft}
use Rattle.anb_protocol.specs.Choices.{refuse_if, first_after, each_after}
use Rattle.anb_protocol.specs.Protocols.{ActionValue, ProtocolValue}
use Rattle.anb_stage.specs.Children.{Child, lines, written_to_all}
use Rattle.anb_stage.specs.declared.ends.Ends.{Ends}
use Rattle.anb_stage.specs.declared.refusal.RelayNo.{RelayNo}
use Rattle.anb_stage.specs.declared.refusal.RelayNo.TheVariants as no

-- ---- messages

-- the sender and the receiver of each action
abbrev pub ends_of : ActionValue → Ends
ends_of a = record { from = a.from; to = a.to }

abbrev pub ends_in : ProtocolValue → List Ends
ends_in p = map ends_of p.actions

-- how many of these actions a role sends
abbrev pub sends_of : ℕ → List Ends → ℕ
sends_of role actions = length (filter (λ (a : Ends). a.from == role) actions)

-- a message, with the number of its action from 1 and its receiver
pub record Message : Type 0 where
  pub action : ℕ
  pub to : ℕ
  pub bytes : List ℕ

-- the refusal of an action where its sender's output ends so in the place of its message
abbrev pub refusal_at : ℕ → Tail → RelayNo
refusal_at action End = no.Ended action
refusal_at action (Short have need) = no.Cut action have need
refusal_at action (Long len) = no.Long action len

-- how many bytes are taken where a message is missing
abbrev pub size_of_tail : Tail → ℕ
size_of_tail End = 0
size_of_tail (Short have need) = have
size_of_tail (Long len) = 4

-- the stamps of an action's bytes at a role's output: there are some at its sender's alone
abbrev pub own_stamps : (role from size written : ℕ) → List ℕ
own_stamps role from size written = if from == role then replicate size written else []

-- the frames in the output of each role's child, and how that output ends behind them
module _ (outputs : ℕ → List (List ℕ)) where
  -- The bytes of an action's message, behind the actions before it: the frame in its sender's output
  -- whose place there is that of the action among its sender's.
  abbrev pub bytes_of : List Ends → Ends → Option (List ℕ)
  bytes_of before a = slice_get (outputs a.from) (sends_of a.from before)

  abbrev pub message_of : List Ends → Ends → List Message
  message_of before a =
      option_map_or
      (λ bytes. record { action = length before + 1; to = a.to; bytes = bytes } ∷ [])
      (bytes_of before a) []

  -- those of all actions, as far as the outputs hold them
  abbrev pub messages : List Ends → List Message
  messages actions = each_after message_of [] actions

  -- the bytes of the messages to a role
  abbrev pub bytes_to : ℕ → List Ends → List (List ℕ)
  bytes_to role actions =
      map (λ (m : Message). m.bytes)
      (filter (λ (m : Message). m.to == role) (messages actions))

  abbrev pub report : List Ends → List Sent
  report actions =
      map (λ (m : Message). record { action = m.action; bytes = m.bytes }) (messages actions)

  -- ---- missing messages

  -- the first action whose message is missing decides
  abbrev pub refusal_of : (ℕ → Tail) → List Ends → Ends → Option RelayNo
  refusal_of tails before a =
      refuse_if (is_none (bytes_of before a)) (refusal_at (length before + 1) (tails a.from))

  abbrev pub missing : (ℕ → Tail) → List Ends → Option RelayNo
  missing tails actions = first_after (refusal_of tails) [] actions

  -- ---- when bytes are taken

  -- For each byte that is taken of a role's output in these actions, behind others before, how many
  -- bytes are written to all children by then: so many at first, and then the frames of all messages
  -- before. Nothing is taken behind the first message that is missing.
  abbrev pub stamps_behind :
      (ℕ → Tail) → (role written : ℕ) → (before actions : List Ends) → List ℕ
  stamps_behind tails role written before [] = []
  stamps_behind tails role written before (a ∷ actions) =
      option_map_or
      (λ bytes. own_stamps role a.from (length (frame bytes)) written
      ++ stamps_behind tails role (written + length (frame bytes)) (before ++ a ∷ []) actions)
      (bytes_of before a) (own_stamps role a.from (size_of_tail (tails a.from)) written)

  abbrev pub stamps : (ℕ → Tail) → (role written : ℕ) → List Ends → List ℕ
  stamps tails role written actions = stamps_behind tails role written [] actions

-- the outputs of the roles below a number are told, and cut so
abbrev pub AreCut : ℕ → (ℕ → Child) → (ℕ → List (List ℕ)) → (ℕ → Tail) → Type 0
AreCut roles children outputs tails =
    (role : ℕ) → role < roles → CutLeft ARRIVAL (children role).left (outputs role) (tails role)

-- what is written to each of them is told
abbrev pub AreHeard : ℕ → (ℕ → Child) → Type 0
AreHeard roles children = (role : ℕ) → role < roles → (children role).written ≢ None

-- ---- what comes of a relay, from old to new children of so many roles

module _ (roles : ℕ) (old new : ℕ → Child) where
  -- each child has a phase from one to the other
  abbrev pub HavePhases : (least most : ℕ) → Type 0
  HavePhases least most =
      (role : ℕ) → role < roles → (least ≤ (new role).phase) × ((new role).phase ≤ most)

  -- exactly its words were asked of each child, or of some of them
  module _ (words : List (List (List ℕ))) where
    abbrev pub AllAsked : Type 0
    AllAsked =
        (role : ℕ) (own : List (List ℕ)) → slice_get words role ≡ Some own
        → Put (old role).asked (new role).asked (lines own)

    abbrev pub SomeAsked : Type 0
    SomeAsked =
        (role : ℕ) (own : List (List ℕ)) → slice_get words role ≡ Some own
        → Put (old role).asked (new role).asked (lines own)
        ⊎ ((new role).asked ≡ (old role).asked)

  module _ (outputs : ℕ → List (List ℕ)) (actions : List Ends) where
    -- exactly the frames of the messages to it were written to each child
    abbrev pub AllWritten : Type 0
    AllWritten =
        (role : ℕ) → role < roles
        → Put (old role).written (new role).written (frames (bytes_to outputs role actions))

    -- a prefix of them
    abbrev pub SomeWritten : Type 0
    SomeWritten =
        (role : ℕ) → role < roles
        → PutPrefix (old role).written (new role).written (frames (bytes_to outputs role actions))

    module _ (tails : ℕ → Tail) where
      -- Each byte of each message's frame was taken when exactly the frames of the messages before were
      -- written; of bytes that were taken, it is so.
      abbrev pub AllInTime : Type 0
      AllInTime =
          (role : ℕ) → role < roles
          → Put (old role).taken_at (new role).taken_at
          (stamps outputs tails role (written_to_all old) actions)

      abbrev pub SomeInTime : Type 0
      SomeInTime =
          (role : ℕ) → role < roles
          → PutPrefix (old role).taken_at (new role).taken_at
          (stamps outputs tails role (written_to_all old) actions)

      -- no message is missing, and all are written
      abbrev pub AllRelayed : Type 0
      AllRelayed = (missing outputs tails actions ≡ None) × AllWritten

      -- What is written with each refusal. A missing message is refused exactly where it is the
      -- first. Only where none is missing a child is finished.
      abbrev pub WritesRefusing : RelayNo → Type 0
      WritesRefusing (no.Bad role status) = AllRelayed
      WritesRefusing (no.Fault role) = (SomeWritten × HavePhases 0 1) ⊎ AllRelayed
      WritesRefusing no.NoMemory = SomeWritten
      WritesRefusing refusal = (missing outputs tails actions ≡ Some refusal) × SomeWritten

  -- the words that were asked, and the phases, with each refusal
  abbrev pub AsksRefusing : List (List (List ℕ)) → RelayNo → Type 0
  AsksRefusing words (no.Fault role) = SomeAsked words
  AsksRefusing words no.NoMemory = SomeAsked words
  AsksRefusing words refusal = AllAsked words

  abbrev pub EndsRefusing : RelayNo → Type 0
  EndsRefusing (no.Bad role status) =
      (other : ℕ) → other < roles → (new other).phase ≡ (if nat_le other role then 2 else 1)
  EndsRefusing (no.Fault role) = Unit {0}
  EndsRefusing no.NoMemory = HavePhases 0 1
  EndsRefusing refusal = HavePhases 1 1

-- each child below this role ended with status 0, where that is told
abbrev pub AreGood : (ℕ → Child) → ℕ → Type 0
AreGood children roles = (role : ℕ) → role < roles → IfSome (children role).status (λ s. s ≡ 0)

-- a status that is refused is that of the first child that ended with another one than 0
abbrev pub IsFirstBad : ℕ → (ℕ → Child) → RelayNo → Type 0
IsFirstBad roles children (no.Bad role status) =
    (role < roles) × (status ≢ 0) × IfSome (children role).status (λ s. s ≡ status)
    × AreGood children role
IsFirstBad roles children refusal = Unit {0}

-- a fault is answered only where a call for this role's child failed
abbrev pub IsFault : ℕ → (old new : ℕ → Child) → RelayNo → Type 0
IsFault roles old new (no.Fault role) =
    (role < roles) × Rose (old role).faults (new role).faults
IsFault roles old new refusal = Unit {0}

-- and it is answered where a count rose
abbrev pub IsReported : (old new : ℕ → Child) → RelayNo → Type 0
IsReported old new refusal =
    (role : ℕ) → role < 32 → (old role).faults < (new role).faults → refusal ≡ no.Fault role

-- What a relay leaves: no count of faults falls and no status changes, and the children of other roles
-- than the first so many are as before.
pub record Stays (old new : ℕ → Child) (roles : ℕ) : Type 0 where
  pub faults : (role : ℕ) → role < 32 → (old role).faults ≤ (new role).faults
  pub statuses : (role : ℕ) → role < 32 → (new role).status ≡ (old role).status
  pub others : (role : ℕ) → roles ≤ role → role < 32 → new role ≡ old role

-- What comes of a whole relay, between these children of so many roles: of what was written wherever
-- their outputs are told, and of all else.
module _ (roles : ℕ) (old new : ℕ → Child) (words : List (List (List ℕ))) (actions : List Ends) where
  pub record IsRelayed : Type 0 where
    pub relayed : (outputs : ℕ → List (List ℕ)) (tails : ℕ → Tail) → AreCut roles old outputs tails
        → AllRelayed roles old new outputs actions tails
    pub in_time : (outputs : ℕ → List (List ℕ)) (tails : ℕ → Tail) → AreCut roles old outputs tails
        → AreHeard roles old → AllInTime roles old new outputs actions tails
    pub asked : AllAsked roles old new words
    pub phases : HavePhases roles old new 2 2
    pub good : AreGood old roles
    pub quiet : (role : ℕ) → role < 32 → (new role).faults ≡ (old role).faults
    pub stays : Stays old new roles

  pub record IsRefused (refusal : RelayNo) : Type 0 where
    pub writes : (outputs : ℕ → List (List ℕ)) (tails : ℕ → Tail) → AreCut roles old outputs tails
        → WritesRefusing roles old new outputs actions tails refusal
    pub in_time : (outputs : ℕ → List (List ℕ)) (tails : ℕ → Tail) → AreCut roles old outputs tails
        → AreHeard roles old → SomeInTime roles old new outputs actions tails
    pub asks : AsksRefusing roles old new words refusal
    pub phases : EndsRefusing roles old new refusal
    pub bad : IsFirstBad roles old refusal
    pub cause : IsFault roles old new refusal
    pub reported : IsReported old new refusal
    pub stays : Stays old new roles
