-- What comes of a session: of a run whose arrivals are the frames of a wire's input.
use Rattle.std.specs.Prelude.{◌≡◌, ◌≢◌, ℕ, ◌+◌, ◌≤◌, List, [], ◌∷◌, ◌++◌, length, replicate, take, All, Bool, true, false, Option, IfSome}
use Rattle.anb_base.specs.Moves.{Took, Put, PutPrefix, AtEnd}
use Rattle.anb_base.specs.Wires.{WireState}
use Rattle.anb_base.specs.declared.TheConstants.{ARRIVAL}
use Rattle.anb_frame.specs.Frames.{frame, frames, length_bytes}
use Rattle.anb_frame.specs.Cuts.{Tail, End, Short, Long, Ends, Cut}
use Rattle.anb_plays.specs.Plays as plays
use Rattle.anb_plays.specs.Plays.{Played, Run}
use Rattle.anb_session.specs.declared.PlayEnd.{PlayEnd}
use Rattle.anb_session.specs.declared.PlayEnd.TheVariants.{Done, Stopped, Waiting, Truncated, TooLarge, ReadFault, WriteFault, NoMemory}

-- how a run that ended so ends over an input with this tail
abbrev pub end_at : plays.End → Tail → PlayEnd
end_at plays.done tail = Done
end_at (plays.stopped e at) tail = Stopped (record { event = e; at = at })
end_at (plays.waiting e) End = Waiting e
end_at (plays.waiting e) (Short have need) = Truncated have need
end_at (plays.waiting e) (Long len) = TooLarge len

-- all that was left was taken
abbrev pub TookAll : Option (List ℕ) → Option (List ℕ) → Type 0
TookAll left now = (taken : List ℕ) × Took left now taken × AtEnd now

-- what was taken, from left to now, by a run that ended so: the frames of the arrivals that were
-- used. Where it waits all of them were, and the tail is taken too, a long one up to the end of its
-- length
abbrev pub Reads : plays.End → (arrivals unused : List (List ℕ)) → Tail
    → (left now : Option (List ℕ)) → Type 0
Reads (plays.waiting e) arrivals unused End left now = TookAll left now
Reads (plays.waiting e) arrivals unused (Short have need) left now = TookAll left now
Reads (plays.waiting e) arrivals unused (Long len) left now =
    Took left now (frames arrivals ++ length_bytes len)
Reads end arrivals unused tail left now =
    (used : List (List ℕ)) × (arrivals ≡ used ++ unused) × Took left now (frames used)

-- R is the run, and the input that is left is the frames of these arrivals and this tail
module _ (R : Run) (arrivals : List (List ℕ)) (tail : Tail)
    (left now written written_now : Option (List ℕ)) where
  -- the run came to its end, and all its messages are written in frames
  abbrev pub Concludes : PlayEnd → Type 0
  Concludes result =
      (result ≡ end_at (R arrivals).end tail) × Put written written_now (frames (R arrivals).sent)
      × Reads (R arrivals).end arrivals (R arrivals).left tail left now

  -- what is written and taken with each end. After a fault of writing a prefix of the messages'
  -- frames is written. Before a fault of reading what was taken had whole arrivals, over which the
  -- run waits, and its messages there are written. Where memory was wanted whole frames of the
  -- first messages are written
  abbrev pub Runs : PlayEnd → Type 0
  Runs WriteFault = PutPrefix written written_now (frames (R arrivals).sent)
  Runs ReadFault =
      (taken : List ℕ) × (whole : List (List ℕ)) × (part : Tail) × (e : ℕ) × Took left now taken
      × Cut ARRIVAL taken whole part × ((R whole).end ≡ plays.waiting e)
      × Put written written_now (frames (R whole).sent)
  Runs NoMemory = (k : ℕ) × Put written written_now (frames (take k (R arrivals).sent))
  Runs result = Concludes result

-- the run waits for an arrival that was not handed in
abbrev pub waits_at : PlayEnd → Bool
waits_at (Waiting e) = true
waits_at (Truncated have need) = true
waits_at (TooLarge len) = true
waits_at ReadFault = true
waits_at _ = false

module _ (R : Run) where
  -- how many bytes are written, after those that were before, when the messages are that the run
  -- sends over these arrivals, neither fewer nor more
  abbrev pub due : (before : ℕ) → (arrivals : List (List ℕ)) → ℕ
  due before arrivals = before + length (frames (R arrivals).sent)

  -- how many are due when each byte is taken, of the frames of the arrivals behind the used ones
  -- and of so many bytes behind these
  abbrev pub due_at : (before : ℕ) → (used arrivals : List (List ℕ)) → (rest : ℕ) → List ℕ
  due_at before used [] rest = replicate rest (due before used)
  due_at before used (b ∷ arrivals) rest =
      replicate (length (frame b)) (due before used)
      ++ due_at before (used ++ b ∷ []) arrivals rest

-- so it waits for an arrival
abbrev pub Awaits : Played (List ℕ) → Type 0
Awaits p = (e : ℕ) × (p.end ≡ plays.waiting e)

-- what was taken is the frames of whole arrivals, and then a tail as far as it is taken. Each byte
-- of it was taken when exactly the messages were written that the run sends over the whole arrivals
-- before that byte's, and over these the run waits
pub record IsPrompt (R : Run) (old new : WireState) : Type 0 where
  pub whole : List (List ℕ)
  pub rest : List ℕ
  pub tail : Tail
  pub fits : All (λ b. length b ≤ ARRIVAL) whole
  pub ends : Ends ARRIVAL rest tail
  pub took : Took old.left new.left (frames whole ++ rest)
  pub in_time : IfSome old.written (λ written.
      Put old.taken_at new.taken_at (due_at R (length written) [] whole (length rest)))
  pub awaited : (used : List (List ℕ)) (b : List ℕ) (later : List (List ℕ))
      → whole ≡ used ++ b ∷ later → Awaits (R used)
  pub awaits : rest ≢ [] → Awaits (R whole)
