-- What comes of a run over the frames of a wire: the status, what is written, and what is left.
use Rattle.std.specs.Prelude.{◌≡◌, ℕ, ◌⊎◌, true, false, List, [], ◌++◌, take, Option, Some}
use Rattle.std.specs.List.{AllByRecursion}
use Rattle.anb_base.specs.Bytes.{IsBytes}
use Rattle.anb_base.specs.Moves.{Put, Took}
use Rattle.anb_base.specs.Wires.{WireState}
use Rattle.anb_base.specs.declared.TheConstants.{ARRIVAL}
use Rattle.anb_frame.specs.Frames.{frames, length_bytes}
use Rattle.anb_frame.specs.Cuts.{Tail, End, Short, Long, Cut}
use Rattle.anb_plays.specs.Plays as plays
use Rattle.anb_plays.specs.Plays.{Played, Run}
use Rattle.anb_session.specs.Sessions.{IsPrompt}
use Rattle.anb_status.specs.declared.status.Status.{Status}
use Rattle.anb_status.specs.declared.status.Status.TheVariants.{Done, FileFault, Unreached, Stopped, Waiting, Truncated, TooLarge, ReadFault, WriteFault, NoMemory}
use Rattle.anb_command.specs.Fetches.{Files, IfTold}
use Rattle.anb_command.specs.Refusing.{IsRefusing}
use Rattle.anb_status.specs.Statuses.{is_fault}
use Rattle.anb_command.specs.Steps.{Answer, refused, given}

-- The status of a run that ended so, before this tail of the input. It tells the instruction that the
-- end tells; plays tell none, which is 0.
abbrev pub status_at : plays.End → Tail → Status
status_at plays.done tail = Done
status_at (plays.stopped e at) tail = Stopped (record { event = e; at = at })
status_at (plays.waiting e) End = Waiting e
status_at (plays.waiting e) (Short have need) = Truncated have need
status_at (plays.waiting e) (Long len) = TooLarge len

-- What is left of an input behind what a run used of it: the frames of its arrivals. Where it waits
-- they are all there are, and the tail is used too, a long one up to the end of its length.
abbrev pub LeavesAt : plays.End → (left : List ℕ) (arrivals unused : List (List ℕ)) → Tail → (rest : List ℕ) → Type 0
LeavesAt (plays.waiting e) left arrivals unused End rest = rest ≡ []
LeavesAt (plays.waiting e) left arrivals unused (Short have need) rest = rest ≡ []
LeavesAt (plays.waiting e) left arrivals unused (Long len) rest = left ≡ frames arrivals ++ (length_bytes len ++ rest)
LeavesAt end left arrivals unused tail rest = (used : List (List ℕ)) × (arrivals ≡ used ++ unused) × (left ≡ frames used ++ rest)

-- a refusal: nothing is written or read
pub record IsRefused {A : Type 0} (Prepares : Answer A → Type 0) (left : List ℕ) (status : Status) (out rest : List ℕ) : Type 0 where
  pub refuses : Prepares (refused status)
  pub writes : out ≡ []
  pub leaves : rest ≡ left

-- what comes of a thing that is asked for, over some arrivals
module _ {A : Type 0} (IsRunOf : A → List (List ℕ) → Played (List ℕ) → Type 0) where
  -- a run to its end: the frames of its messages are written, and what it used of the input is read
  pub record IsPlayed (asked : A) (left : List ℕ) (arrivals : List (List ℕ)) (tail : Tail) (status : Status) (out rest : List ℕ) : Type 0 where
    pub play : Played (List ℕ)
    pub plays : IsRunOf asked arrivals play
    pub status_is : status ≡ status_at play.end tail
    pub writes : out ≡ frames play.sent
    pub leaves : LeavesAt play.end left arrivals play.left tail rest

  module _ (Prepares : Answer A → Type 0) (left : List ℕ) (arrivals : List (List ℕ)) where
    -- the status, what is written, and what is left of an input that is cut into these arrivals and this
    -- tail, where no fault comes
    abbrev pub Outcome : Tail → Status → (out rest : List ℕ) → Type 0
    Outcome tail status out rest = IsRefused Prepares left status out rest ⊎ ((asked : A) × Prepares (given asked) × IsPlayed asked left arrivals tail status out rest)

    -- what is written where a fault comes, or memory is wanting, and what is left then
    abbrev pub CutShort : Status → (out : List ℕ) → (left_now : Option (List ℕ)) → Type 0
    -- a prefix of the frames that are due
    CutShort WriteFault out left_now = (asked : A) × Prepares (given asked) × ((p : Played (List ℕ)) × IsRunOf asked arrivals p × ((n : ℕ) × (out ≡ take n (frames p.sent))))
    -- the frames of the run over the arrivals that were read whole, which waits
    CutShort ReadFault out left_now =
        (asked : A) × Prepares (given asked) × ((taken : List ℕ) × (whole : List (List ℕ)) × (tail : Tail) × Took (Some left) left_now taken × Cut ARRIVAL taken whole tail
        × ((p : Played (List ℕ)) × IsRunOf asked whole p × ((e : ℕ) × (p.end ≡ plays.waiting e)) × (out ≡ frames p.sent)))
    -- nothing, and nothing is read; or, where there is something to run, whole frames, the first of those
    -- that are due
    CutShort NoMemory out left_now =
        ((out ≡ []) × (left_now ≡ Some left))
        ⊎ ((asked : A) × Prepares (given asked) × ((p : Played (List ℕ)) × IsRunOf asked arrivals p × ((k : ℕ) × (out ≡ frames (take k p.sent)))))
    -- nothing, where there is something to run
    CutShort (Unreached place) out left_now = ((asked : A) × Prepares (given asked)) × (out ≡ []) × (left_now ≡ Some left)
    -- nothing
    CutShort (FileFault name) out left_now = (out ≡ []) × (left_now ≡ Some left)
    CutShort status out left_now = ⊥

    -- the outcome over an input with this cut, in both directions. What is written may be untold
    pub record IsOutcome (tail : Tail) (result : Status) (left_now written written_now : Option (List ℕ)) : Type 0 where
      -- the answer is an outcome
      pub is : is_fault result ≡ false → (out : List ℕ) × (rest : List ℕ) × Outcome tail result out rest × Put written written_now out × (left_now ≡ Some rest)
      -- and each outcome is the answer
      pub only : is_fault result ≡ false → (status : Status) (out rest : List ℕ) → Outcome tail status out rest
          → (result ≡ status) × Put written written_now out × (left_now ≡ Some rest)
      pub cut_short : is_fault result ≡ true → (out : List ℕ) × CutShort result out left_now × Put written written_now out

  -- Each byte that was taken, of an arrival or of a tail, was taken when exactly the frames of the
  -- messages were written that the run over the arrivals before it has sent.
  pub record TakesInTime (asked : A) (old new : WireState) : Type 0 where
    pub run : Run
    pub comes : (arrivals : List (List ℕ)) → AllByRecursion IsBytes arrivals → IsRunOf asked arrivals (run arrivals)
    pub prompt : IsPrompt run old new

  -- nothing was taken; or there is something to run, and all was taken in time
  abbrev pub IsInTime : (Answer A → Type 0) → (old new : WireState) → Type 0
  IsInTime Prepares old new =
      ((new.left ≡ old.left) × (new.taken_at ≡ old.taken_at))
      ⊎ ((asked : A) × Prepares (given asked) × TakesInTime asked old new)

  -- What a command does that runs such a thing. What it refuses is exact wherever the files are told.
  -- Where the input is told too, the outcome is that over each cut that it has.
  pub record RunsOver (Prepares : Files → Answer A → Type 0)
      (Reads : Files → List ℕ → Type 0)
      (told : Option Files) (old new : WireState) (status : Status) : Type 0 where
    pub refuses : IfTold told (λ files. IsRefusing (Prepares files) (Reads files) status)
    pub outcome : IfTold told (λ files. IfTold old.left (λ left.
        (arrivals : List (List ℕ)) (tail : Tail) → IsBytes left → Cut ARRIVAL left arrivals tail
        → IsOutcome (Prepares files) left arrivals tail status new.left old.written new.written))
    -- whatever the status
    pub in_time : IfTold told (λ files. IsInTime (Prepares files) old new)
