-- How far a relay is: the children so many of which were started, or finished, and those between
-- which so many actions were carried.
use Rattle.std.specs.Prelude.{◌≡◌, ◌≢◌, ℕ, ◌+◌, ◌<◌, ◌≤◌, ◌⊎◌, List, [], ◌∷◌, ◌++◌, length, take, drop, replicate, slice_get, Some, None, Option, Result, Ok, Err}
use Rattle.std.specs.List.{AllByRecursion}
use Rattle.std.specs.Option.{option_map_or}
use Rattle.anb_base.specs.Moves.{Put, PutPrefix, Rose, Stamped}
use Rattle.anb_base.specs.declared.TheConstants.{ARRIVAL}
use Rattle.anb_frame.specs.Frames.{frame, frames}
use Rattle.anb_frame.specs.Cuts.{Tail, CutLeft}
use Rattle.anb_frame.specs.declared.Taken.{Taken}
use Rattle.anb_frame.specs.declared.Taken.TheVariants.{Frame, End}
use Rattle.anb_frame.specs.declared.FrameNo.{FrameNo}
use Rattle.anb_stage.specs.Children.{Child, lines, written_to_all}
use Rattle.anb_stage.specs.Relays.{sends_of, bytes_of, bytes_to, missing, refusal_at, size_of_tail, AreGood, AreHeard, AllInTime, IsFirstBad, IsReported, EndsRefusing, SomeAsked, SomeWritten, HavePhases, Stays}
use Rattle.anb_stage.specs.declared.ends.Ends.{Ends}
use Rattle.anb_stage.specs.declared.refusal.RelayNo.{RelayNo}
use Rattle.anb_stage.specs.declared.refusal.RelayNo.TheVariants as no

-- how many bytes are written behind the messages of these actions, where none is missing
abbrev pub written_behind : (ℕ → List (List ℕ)) → (written : ℕ) → (before actions : List Ends) → ℕ
written_behind outputs written before [] = written
written_behind outputs written before (a ∷ actions) =
    option_map_or
    (λ bytes. written_behind outputs (written + length (frame bytes)) (before ++ a ∷ []) actions)
    (bytes_of outputs before a) written

-- the children of all roles below 32 but one are as before
abbrev pub OthersStayBelow : ℕ → (old new : ℕ → Child) → Type 0
OthersStayBelow role old new =
    (other : ℕ) → other < 32 → other ≢ role → new other ≡ old other

module _ (old new : ℕ → Child) where
  abbrev pub SameWritten : Type 0
  SameWritten = (role : ℕ) → role < 32 → (new role).written ≡ (old role).written

  abbrev pub SameTaken : Type 0
  SameTaken = (role : ℕ) → role < 32 → (new role).taken_at ≡ (old role).taken_at

  abbrev pub SameAsked : Type 0
  SameAsked = (role : ℕ) → role < 32 → (new role).asked ≡ (old role).asked

  abbrev pub SamePhases : Type 0
  SamePhases = (role : ℕ) → role < 32 → (new role).phase ≡ (old role).phase

  abbrev pub SameFaults : Type 0
  SameFaults = (role : ℕ) → role < 32 → (new role).faults ≡ (old role).faults

  abbrev pub RoseFor : ℕ → Type 0
  RoseFor role = Rose (old role).faults (new role).faults

  -- so many children were started
  pub record Started (count : ℕ) (words : List (List (List ℕ))) : Type 0 where
    pub asked : (role : ℕ) (own : List (List ℕ)) → role < count → slice_get words role ≡ Some own
        → Put (old role).asked (new role).asked (lines own)
    pub phases : (role : ℕ) → role < count → (new role).phase ≡ 1
    pub left : (role : ℕ) → role < 32 → (new role).left ≡ (old role).left
    pub taken : SameTaken
    pub written : SameWritten
    pub quiet : SameFaults
    pub stays : Stays old new count

  -- a start failed
  pub record StartFailed (role roles : ℕ) (words : List (List (List ℕ))) : Type 0 where
    pub within : role < roles
    pub rose : RoseFor role
    pub asked : SomeAsked roles old new words
    pub phases : HavePhases roles old new 0 1
    pub taken : SameTaken
    pub written : SameWritten
    pub reported : IsReported old new (no.Fault role)
    pub stays : Stays old new roles

  abbrev pub FailsStarting : (roles : ℕ) (words : List (List (List ℕ))) → RelayNo → Type 0
  FailsStarting roles words (no.Fault role) = StartFailed role roles words
  FailsStarting roles words refusal = ⊥

  -- a message was carried from one role's child to another's
  pub record CarryKeeps (from to : ℕ) : Type 0 where
    pub left : (role : ℕ) → role < 32 → role ≢ from → (new role).left ≡ (old role).left
    pub taken : (role : ℕ) → role < 32 → role ≢ from → (new role).taken_at ≡ (old role).taken_at
    pub written : (role : ℕ) → role < 32 → role ≢ to → (new role).written ≡ (old role).written
    pub asked : SameAsked
    pub phases : SamePhases
    pub faults : (role : ℕ) → role < 32 → (old role).faults ≤ (new role).faults
    pub statuses : (role : ℕ) → role < 32 → (new role).status ≡ (old role).status
    pub others : (role : ℕ) → role < 32 → role ≢ from → role ≢ to → new role ≡ old role

  -- of what was left of the sender's output, with this cut, the first frame was carried, or a
  -- prefix of it
  module _ (bs : List (List ℕ)) (tail : Tail) where
    pub record Carries (from to : ℕ) (b : List ℕ) : Type 0 where
      pub rest : List (List ℕ)
      pub is : bs ≡ b ∷ rest
      pub cut : CutLeft ARRIVAL (new from).left rest tail
      pub stamped : Stamped (old from).taken_at (new from).taken_at (written_to_all old)
          (length (frame b))
      pub put : Put (old to).written (new to).written (frame b)

    pub record CarriesPart (to : ℕ) : Type 0 where
      pub b : List ℕ
      pub rest : List (List ℕ)
      pub is : bs ≡ b ∷ rest
      pub put : PutPrefix (old to).written (new to).written (frame b)

    -- with each refusal of an action
    abbrev pub FailsCarrying : (action to : ℕ) → RelayNo → Type 0
    FailsCarrying action to (no.Fault role) =
        ((new to).written ≡ (old to).written) ⊎ CarriesPart to
    FailsCarrying action to no.NoMemory = (new to).written ≡ (old to).written
    FailsCarrying action to refusal =
        (bs ≡ []) × (refusal ≡ refusal_at action tail) × ((new to).written ≡ (old to).written)

  -- a fault of a call for this role's child, or a refusal that is neither a fault nor a bad status
  abbrev pub IsCaused : ℕ → RelayNo → Type 0
  IsCaused roles (no.Fault role) = (role < roles) × RoseFor role
  IsCaused roles (no.Bad role status) = ⊥
  IsCaused roles refusal = Unit {0}

  -- all actions were carried
  pub record Carried (roles : ℕ) (outputs : ℕ → List (List ℕ)) (tails : ℕ → Tail)
      (actions : List Ends) : Type 0 where
    pub none : missing outputs tails actions ≡ None
    pub cuts : (role : ℕ) → role < roles
        → CutLeft ARRIVAL (new role).left (drop (sends_of role actions) (outputs role)) (tails role)
    pub written : (role : ℕ) → role < roles
        → Put (old role).written (new role).written (frames (bytes_to outputs role actions))
    pub in_time : AreHeard roles old → AllInTime roles old new outputs actions tails
    pub total : AreHeard roles old
        → written_to_all new ≡ written_behind outputs (written_to_all old) [] actions

  -- with each refusal of some of them
  abbrev pub FailsCarryingSome :
      ℕ → (ℕ → List (List ℕ)) → (ℕ → Tail) → List Ends → RelayNo → Type 0
  FailsCarryingSome roles outputs tails actions (no.Fault role) =
      SomeWritten roles old new outputs actions
  FailsCarryingSome roles outputs tails actions no.NoMemory =
      SomeWritten roles old new outputs actions
  FailsCarryingSome roles outputs tails actions refusal =
      (missing outputs tails actions ≡ Some refusal) × SomeWritten roles old new outputs actions

  pub record CarryingKeeps (roles : ℕ) : Type 0 where
    pub asked : SameAsked
    pub phases : SamePhases
    pub stays : Stays old new roles

  -- so many children were finished, each with status 0 where that is told
  pub record Finished (count roles : ℕ) : Type 0 where
    pub taken : SameTaken
    pub done : (role : ℕ) → role < count → (new role).phase ≡ 2
    pub running : (role : ℕ) → count ≤ role → role < roles → (new role).phase ≡ 1
    pub good : AreGood old count
    pub asked : SameAsked
    pub written : SameWritten
    pub quiet : SameFaults
    pub stays : Stays old new roles

  pub record FinishFailed (roles : ℕ) (refusal : RelayNo) : Type 0 where
    pub reported : IsReported old new refusal
    pub taken : SameTaken
    pub asked : SameAsked
    pub written : SameWritten
    pub stays : Stays old new roles

  -- with each refusal
  abbrev pub FailsFinishing : ℕ → RelayNo → Type 0
  FailsFinishing roles (no.Fault role) = (role < roles) × RoseFor role × FinishFailed roles (no.Fault role)
  FailsFinishing roles (no.Bad role status) =
      IsFirstBad roles old (no.Bad role status) × EndsRefusing roles old new (no.Bad role status)
      × FinishFailed roles (no.Bad role status)
  FailsFinishing roles refusal = ⊥

-- a frame has at most so many bytes
abbrev pub FitsIn : ℕ → Taken → Type 0
FitsIn most (Frame n) = n ≤ most
FitsIn most End = Unit {0}

-- a fact for the bytes of the frame that stands in a buffer
abbrev pub OnFrame : (buffer : List ℕ) → Result Taken FrameNo → (List ℕ → Type 0) → Type 0
OnFrame buffer (Ok (Frame n)) P = P (take n buffer)
OnFrame buffer (Ok End) P = Unit {0}
OnFrame buffer (Err refusal) P = Unit {0}

-- how many bytes are taken at most for the next message of an output with this cut
abbrev pub next_size : List (List ℕ) → Tail → ℕ
next_size [] tail = size_of_tail tail
next_size (b ∷ bs) tail = length (frame b)

-- so many of them, each when so many were written
abbrev pub Begins : (taken_at taken_at_now : Option (List ℕ)) → (written : ℕ) → List (List ℕ) → Tail → Type 0
Begins taken_at taken_at_now written bs tail =
    PutPrefix taken_at taken_at_now (replicate (next_size bs tail) written)

-- of what was left, with this cut, the first frame was taken
abbrev pub Takes : Option (List ℕ) → List (List ℕ) → Tail → List ℕ → Type 0
Takes now bs tail bytes =
    (rest : List (List ℕ)) × (bs ≡ bytes ∷ rest) × CutLeft ARRIVAL now rest tail

-- a refusal of an action, other than a fault and want of memory, where nothing was taken
abbrev pub IsMissing : List (List ℕ) → Tail → ℕ → RelayNo → Type 0
IsMissing bs tail action (no.Fault role) = Unit {0}
IsMissing bs tail action no.NoMemory = Unit {0}
IsMissing bs tail action refusal = (bs ≡ []) × (refusal ≡ refusal_at action tail)

-- both ends of each action are below a number
abbrev pub AreWithin : ℕ → List Ends → Type 0
AreWithin roles actions = AllByRecursion (λ (a : Ends). (a.from < roles) × (a.to < roles)) actions

-- both children of each action run
abbrev pub AreRunning : (ℕ → Child) → List Ends → Type 0
AreRunning children actions =
    AllByRecursion
    (λ (a : Ends). (a.from < 32) × (a.to < 32) × ((children a.from).phase ≡ 1)
    × ((children a.to).phase ≡ 1)) actions
