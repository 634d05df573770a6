-- What a session that C holds stands for.
use Rattle.std.specs.Prelude.{◌≡◌, ◌⊎◌, ◌≤◌, ◌<◌, ℕ, ℤ, pos, List, [], ◌∷◌, ◌++◌, length, take, Option, Some, None}
use Rattle.anb_base.specs.declared.TheConstants.{ARRIVAL}
use Rattle.anb_plays.specs.Plays.{Played, End, SendsFirst, ends, waiting, stopped, done}
use Rattle.anb_code.specs.CodeValue.{CodeValue}
use Rattle.anb_machine.specs.Machines.{answer}
use Rattle.anb_machine.specs.declared.turn.Turn.TheVariants.{NoMemory}
use Rattle.anb_park.specs.Lives.{LiveValue, Stands}
use Rattle.anb_park.specs.Records.{Parked, after, count_takes, play_of, record_of, Accepts, IsWaiting}
use Rattle.anb_c.specs.declared.session.Session.{Session}

-- the messages that were taken, and behind them the one that nobody took yet
abbrev pub with_pending : List (List ℕ) → Option (List ℕ) → List (List ℕ)
with_pending sent None = sent
with_pending sent (Some message) = sent ++ message ∷ []

abbrev pub LiveFailed : Option LiveValue → Type 0
LiveFailed None = ⊥
LiveFailed (Some live) = answer live.machine ≡ Some NoMemory

-- memory was wanting for its next turn: there is a session, and nothing more comes of it
abbrev pub IsFailed : Option Session → Type 0
IsFailed None = ⊥
IsFailed (Some s) = (s.pending ≡ None) × LiveFailed s.live

module _ (code : CodeValue) (p : Parked) (sent : List (List ℕ)) where
  abbrev pub StandsAt : Option LiveValue → Option (List ℕ) → Type 0
  StandsAt None pending = ⊥
  StandsAt (Some live) pending = Stands code p (with_pending sent pending) live

  -- It is a session of this code with p's identity, seed, number and initial values, which was handed p's
  -- arrivals, and of which these messages were taken. What it still gives is the rest of the code's run,
  -- whatever else arrives.
  abbrev pub IsAt : Option Session → Type 0
  IsAt None = ⊥
  IsAt (Some s) = StandsAt s.live s.pending

  -- whatever else arrives, the run sends these messages and then this one
  abbrev pub SendsMore : List ℕ → Type 0
  SendsMore b = (more : List (List ℕ))
      → (rest : Played (List ℕ)) × SendsFirst (play_of code (after p more)) (sent ++ b ∷ []) rest

  -- whatever else arrives, the run sends these messages and ends so, with nothing more of it used
  abbrev pub Ends : End → Type 0
  Ends end = (more : List (List ℕ)) → SendsFirst (play_of code (after p more)) sent (ends end more)

  -- over what arrived the run sends these messages, and then wants the arrival of this event
  abbrev pub Waits : ℕ → Type 0
  Waits event = SendsFirst (play_of code p) sent (ends (waiting event) [])

  -- it goes on otherwise: with a message, or at its end
  abbrev pub IsElsewhere : Type 0
  IsElsewhere = ((b : List ℕ) × SendsMore b) ⊎ Ends done ⊎ ((event at : ℕ) × Ends (stopped event at))

-- a session that is at this place of a run, before a call, and what the call leaves: the session, and the status
module _ (code : CodeValue) (p : Parked) (sent : List (List ℕ)) (new : Option Session) (status : ℤ) where
  -- `anb_next` tells what comes next of the run. Where memory is wanting the session failed
  abbrev pub IsNext : (out out_now : List ℕ) → (written event instruction : ℕ) → Type 0
  IsNext out out_now written event instruction =
      ((status ≡ pos 100) × (written ≤ length out_now) × IsAt code p (sent ++ take written out_now ∷ []) new)
      ⊎ ((status ≡ pos 101) × (length out_now < written) × (out_now ≡ out) × IsAt code p sent new
      × (b : List ℕ) × (length b ≡ written) × SendsMore code p sent b)
      ⊎ ((status ≡ pos 11) × Waits code p sent event × IsAt code p sent new)
      ⊎ ((status ≡ pos 0) × Ends code p sent done × IsAt code p sent new)
      ⊎ ((status ≡ pos 10) × Ends code p sent (stopped event instruction) × IsAt code p sent new)
      ⊎ ((status ≡ pos 99) × IsFailed new)

  -- `anb_arrive` moves the arrival into the run, where that wants one. Where memory is wanting the session is as it
  -- was, or failed
  abbrev pub IsArrival : List ℕ → Type 0
  IsArrival bytes =
      ((status ≡ pos 0) × (event : ℕ) × Waits code p sent event × IsAt code (after p (bytes ∷ [])) sent new)
      ⊎ ((status ≡ pos 13) × (ARRIVAL < length bytes) × IsAt code p sent new)
      ⊎ ((status ≡ pos 102) × IsElsewhere code p sent × IsAt code p sent new)
      ⊎ ((status ≡ pos 99) × (IsAt code p sent new ⊎ IsFailed new))

  -- `anb_park` writes the record of a session that waits, which is accepted again. Where memory is wanting the session
  -- is as it was, or failed
  abbrev pub IsParking : (key out out_now : List ℕ) → (written : ℕ) → Type 0
  IsParking key out out_now written =
      ((status ≡ pos 0) × (written ≤ length out_now) × (take written out_now ≡ record_of key p)
      × Accepts (count_takes code) (IsWaiting code) p.id key (record_of key p) p × IsAt code p sent new)
      ⊎ ((status ≡ pos 101) × (length out_now < written) × (out_now ≡ out)
      × (written ≡ length (record_of key p)) × IsAt code p sent new)
      ⊎ ((status ≡ pos 102) × IsElsewhere code p sent × IsAt code p sent new)
      ⊎ ((status ≡ pos 99) × (IsAt code p sent new ⊎ IsFailed new))
