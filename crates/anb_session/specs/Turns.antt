-- What one turn of a session does.
use Rattle.std.specs.Prelude.{◌≡◌, ℕ, ◌≤◌, List, [], ◌∷◌, ◌++◌, length, true, Option}
use Rattle.anb_base.specs.Moves.{Took}
use Rattle.anb_base.specs.Wires.{WireState}
use Rattle.anb_base.specs.declared.TheConstants.{ARRIVAL}
use Rattle.anb_frame.specs.Frames.{frame}
use Rattle.anb_frame.specs.Cuts.{Tail, CutLeft}
use Rattle.anb_machine.specs.Machines.{MachineValue, gives, waits}
use Rattle.anb_plays.specs.Plays.{ends, says, waiting, Run}
use Rattle.anb_session.specs.declared.PlayEnd.{PlayEnd}
use Rattle.anb_session.specs.declared.PlayEnd.TheVariants.{Waiting}
use Rattle.anb_session.specs.Sessions.{Runs, IsPrompt}

-- the run came to this end, whatever cut the input has
abbrev pub Ends : Run → (left now written written_now : Option (List ℕ)) → PlayEnd → Type 0
Ends R left now written written_now end =
    (arrivals : List (List ℕ)) (tail : Tail) → CutLeft ARRIVAL left arrivals tail
    → Runs R arrivals tail left now written written_now end

-- the same of each run that sends this message first
abbrev pub EndsSending :
    List ℕ → (left now written written_now : Option (List ℕ)) → PlayEnd → Type 0
EndsSending message left now written written_now end =
    (R : Run)
    → ((arrivals : List (List ℕ))
    → (sent : List (List ℕ)) × ((R arrivals).sent ≡ message ∷ sent))
    → Ends R left now written written_now end

-- and of each run that waits for its next arrival at this event
abbrev pub EndsWaiting : ℕ → (left now written written_now : Option (List ℕ)) → PlayEnd → Type 0
EndsWaiting event left now written written_now end =
    (R : Run) → (R [] ≡ ends (waiting event) []) → Ends R left now written written_now end

-- an arrival was taken in its frame
pub record Receives (b : List ℕ) (left now : Option (List ℕ)) : Type 0 where
  pub fits : length b ≤ ARRIVAL
  pub took : Took left now (frame b)
  pub first : (arrivals : List (List ℕ)) (tail : Tail) → CutLeft ARRIVAL left arrivals tail
      → (rest : List (List ℕ)) × (arrivals ≡ b ∷ rest) × CutLeft ARRIVAL now rest tail

-- what comes of the run R' from here on comes of the run R from there on
pub record Continues (R R' : Run) (left left' written written' : Option (List ℕ)) : Type 0 where
  pub each : (arrivals : List (List ℕ)) (tail : Tail) → CutLeft ARRIVAL left arrivals tail
      → (rest : List (List ℕ)) × CutLeft ARRIVAL left' rest tail
      × ((now written_now : Option (List ℕ)) (end : PlayEnd)
      → Runs R' rest tail left' now written' written_now end
      → Runs R arrivals tail left now written written_now end)

-- a run that waits for its next arrival at this event was prompt
abbrev pub WaitsPromptly : ℕ → (old new : WireState) → Type 0
WaitsPromptly event old new = (R : Run) → (R [] ≡ ends (waiting event) []) → IsPrompt R old new

-- where the run R' is prompt from here on, the run R is prompt from there on
pub record GoesOnPromptly (R R' : Run) (old new : WireState) : Type 0 where
  pub each : (end : WireState) → IsPrompt R' new end → IsPrompt R old end

-- a run that waits at this event and gets this arrival goes on promptly
abbrev pub ReceivesPromptly : ℕ → List ℕ → (old new : WireState) → Type 0
ReceivesPromptly event b old new =
    (R R' : Run) → (R [] ≡ ends (waiting event) [])
    → ((arrivals : List (List ℕ)) → R (b ∷ arrivals) ≡ R' arrivals)
    → GoesOnPromptly R R' old new

-- a run that sends this message goes on promptly
abbrev pub SendsPromptly : List ℕ → (old new : WireState) → Type 0
SendsPromptly b old new =
    (R R' : Run) → ((arrivals : List (List ℕ)) → R arrivals ≡ says b (R' arrivals))
    → GoesOnPromptly R R' old new

-- nothing was taken
pub record TookNothing (old new : WireState) : Type 0 where
  pub left : new.left ≡ old.left
  pub taken_at : new.taken_at ≡ old.taken_at

-- what comes of R' from here on comes of R from there on, in time
pub record Passes (R R' : Run) (old new : WireState) : Type 0 where
  pub continues : Continues R R' old.left new.left old.written new.written
  pub promptly : GoesOnPromptly R R' old new

-- R came to this end, in time
pub record Closes (R : Run) (old new : WireState) (end : PlayEnd) : Type 0 where
  pub ends : Ends R old.left new.left old.written new.written end
  pub prompt : IsPrompt R old new

-- R waits for its next arrival at this event, and this one comes
abbrev pub Hears : ℕ → List ℕ → (old new : WireState) → Type 0
Hears event b old new = (R R' : Run) → R [] ≡ ends (waiting event) []
    → ((more : List (List ℕ)) → R (b ∷ more) ≡ R' more) → Passes R R' old new

-- a machine waits for an arrival, before which it has nothing to send
pub record AwaitsNow (machine : MachineValue) : Type 0 where
  pub waits : waits machine ≡ true
  pub event : ℕ
  pub next : gives machine [] ≡ ends (waiting event) []

-- what is true of what is played before and after some arrivals
module _ {A : Type 0} (Follows : A → List (List ℕ) → A → Type 0) (x y : A) where
  -- it went on by these arrivals, which are the first of those that were left
  pub record WentOn (old new : WireState) : Type 0 where
    pub used : List (List ℕ)
    pub follows : Follows x used y
    pub first : (arrivals : List (List ℕ)) (tail : Tail) → CutLeft ARRIVAL old.left arrivals tail
        → (rest : List (List ℕ)) × (arrivals ≡ used ++ rest) × CutLeft ARRIVAL new.left rest tail

  -- where it waits at the end of the input, it went on by all that was left
  abbrev pub HeardAll : WireState → PlayEnd → Type 0
  HeardAll old end = (e : ℕ) → end ≡ Waiting e
      → (used : List (List ℕ)) × Follows x used y
      × ((arrivals : List (List ℕ)) (tail : Tail) → CutLeft ARRIVAL old.left arrivals tail → arrivals ≡ used)
