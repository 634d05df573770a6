-- A session in parts: `park` over a first input, and `resume` over each further one, from the record
-- that was written last, over the wire or to a file.
use Rattle.std.specs.Prelude.{◌≡◌, ◌≤◌, ℕ, List, [], ◌∷◌, ◌++◌, length, Option, Some, IfSome}
use Rattle.anb_base.specs.Bytes.{IsBytes}
use Rattle.anb_base.specs.declared.TheConstants.{ARRIVAL}
use Rattle.anb_frame.specs.Frames.{frames}
use Rattle.anb_frame.specs.Cuts.{Tail, Cut}
use Rattle.anb_plays.specs.Plays.{Played}
use Rattle.anb_command.specs.declared.limits.TheConstants.{RECORD_LIMIT}
use Rattle.anb_status.specs.declared.status.Status.{Status}
use Rattle.anb_status.specs.declared.status.Status.TheVariants.{Parked, Waiting}
use Rattle.anb_command.specs.Fetches.{Files}
use Rattle.anb_command.specs.Outcomes as playing
use Rattle.anb_command.specs.Steps.{Answer, given}
use Rattle.anb_role_commands.specs.Jobs.{JobIs}
use Rattle.anb_role_commands.specs.PlayCommand.{PlayOf}
use Rattle.anb_park_commands.specs.declared.ended.RecordWay.{RecordWay}
use Rattle.anb_park_commands.specs.Keys.{KeyIs}
use Rattle.anb_park_commands.specs.ParkCommand.{NewSessionIs}
use Rattle.anb_park_commands.specs.Parking.{IsPlayed, Outcome, by_wire, record_after}
use Rattle.anb_park_commands.specs.ResumeCommand.{ResumedIs}
use Rattle.anb_park_commands.specs.Sessions.{Begins, GoesOn, RoleSession}

-- a command is parked over this input: it writes the frames of its messages, and this record goes its
-- way
pub record IsParked (way : RecordWay) (Comes : RoleSession → List (List ℕ) → Played (List ℕ) → Type 0)
    (Prepares : Answer RoleSession → Type 0) (input written kept : List ℕ) : Type 0 where
  pub session : RoleSession
  pub asks : Prepares (given session)
  pub arrivals : List (List ℕ)
  pub tail : Tail
  pub cut : Cut ARRIVAL input arrivals tail
  pub event : ℕ
  pub out : List ℕ
  pub rest : List ℕ
  pub is : IsPlayed way Comes session input arrivals tail (Parked event) out rest
  pub written_is : written ≡ frames is.play.sent
  pub kept_is : kept ≡ record_after session arrivals

-- a command that goes on: the files that are there by then, the name of the record's, and the input
pub record Resuming : Type 0 where
  pub files : Files
  pub saved : List ℕ
  pub input : List ℕ

-- The status and the bytes of `park` or `resume` where `play` has this status and these bytes more are
-- its messages: the same, but that where `play` waits at a border they are parked, and a record that
-- goes over the wire follows the messages.
abbrev pub EndsAs : RecordWay → (status_of_play : Status) → (sent : List ℕ) → Status → (out : List ℕ) → Type 0
EndsAs way (Waiting event) sent status out =
    (status ≡ Parked event) × ((kept : List ℕ) × (out ≡ sent ++ by_wire way kept))
EndsAs way status_of_play sent status out = (status ≡ status_of_play) × (out ≡ sent)

module _ (narration name values key : List ℕ) (host_seed : Option (List ℕ)) (files : Files) where
  -- the outcomes of `play`, over an input in the cut that it has
  abbrev pub Plays : (input : List ℕ) → Status → (out rest : List ℕ) → Type 0
  Plays input status out rest =
      (arrivals : List (List ℕ)) × (tail : Tail) × Cut ARRIVAL input arrivals tail
      × playing.Outcome PlayOf (JobIs files narration name values host_seed)
      input arrivals tail status out rest

  -- the record stands in its file, and the files of the narration and of the key are as they were
  pub record Finds (r : Resuming) (kept : List ℕ) : Type 0 where
    pub kept_there : r.files r.saved ≡ Some kept
    pub same_narration : r.files narration ≡ files narration
    pub same_key : r.files key ≡ files key

  -- where records go this way
  module _ (way : RecordWay) where
    -- and those of the other two
    abbrev pub Parks : (input : List ℕ) → Status → (out rest : List ℕ) → Type 0
    Parks input status out rest =
        (arrivals : List (List ℕ)) × (tail : Tail) × Cut ARRIVAL input arrivals tail
        × Outcome way Begins (NewSessionIs narration name values key host_seed files)
        input arrivals tail status out rest

    abbrev pub Resumes : Resuming → Status → (out rest : List ℕ) → Type 0
    Resumes r status out rest =
        (arrivals : List (List ℕ)) × (tail : Tail) × Cut ARRIVAL r.input arrivals tail
        × Outcome way GoesOn (ResumedIs narration name r.saved key r.files)
        r.input arrivals tail status out rest

    -- `park` over the first input and then each of these, the last of which stands in front, were
    -- parked: all that they heard, the messages that they wrote, and the last record
    abbrev pub WereParked : (first : List ℕ) → List Resuming → (heard written kept : List ℕ) → Type 0
    WereParked first [] heard written kept =
        (heard ≡ first)
        × IsParked way Begins (NewSessionIs narration name values key host_seed files) first written kept
    WereParked first (r ∷ earlier) heard written kept =
        (before : List ℕ) × (sent : List ℕ) × (held : List ℕ) × (more : List ℕ)
        × WereParked first earlier before sent held × Finds r held
        × IsParked way GoesOn (ResumedIs narration name r.saved key r.files) r.input more kept
        × (heard ≡ before ++ r.input) × (written ≡ sent ++ more)

    -- A command over an input goes on as `play`, where so much was heard and written before: its
    -- outcomes are those of `play` over both inputs together, in both directions. In all the messages
    -- of `play` are written, with the same end, and the same is left.
    pub record GoesOnAsPlayed (heard written input : List ℕ) (Ends : Status → (out rest : List ℕ) → Type 0)
        : Type 0 where
      pub is : (status : Status) (out rest : List ℕ) → Ends status out rest
          → (status_of_play : Status) × (sent : List ℕ) × EndsAs way status_of_play sent status out
          × Plays (heard ++ input) status_of_play (written ++ sent) rest
      pub only : (status_of_play : Status) (all rest : List ℕ)
          → Plays (heard ++ input) status_of_play all rest
          → (status : Status) × (sent : List ℕ) × (out : List ℕ) × (all ≡ written ++ sent)
          × EndsAs way status_of_play sent status out × Ends status out rest

    -- `park` does what `play` does; and wherever it and those after it were parked, `resume` reads the
    -- record, and goes on
    pub record IsSplitAsWhole : Type 0 where
      pub begins : (secret input : List ℕ) → KeyIs files key (given secret)
          → GoesOnAsPlayed [] [] input (Parks input)
      pub short : (first : List ℕ) (resumed : List Resuming) (heard written kept : List ℕ)
          → WereParked first resumed heard written kept → length kept ≤ RECORD_LIMIT
      pub goes_on : (first : List ℕ) (resumed : List Resuming) (heard written kept : List ℕ) (r : Resuming)
          → WereParked first resumed heard written kept → Finds r kept → IsBytes r.input
          → GoesOnAsPlayed heard written r.input (Resumes r)

-- A play that is split at any of its waits, as often as one likes, is the whole one, whichever way the
-- records go.
abbrev pub SplitPlaysAreWhole : Type 0
SplitPlaysAreWhole =
    (way : RecordWay) (narration name values key : List ℕ) (host_seed : Option (List ℕ)) (files : Files)
    → IfSome host_seed (λ seed. length seed ≡ 32)
    → IsSplitAsWhole narration name values key host_seed files way
