-- What a trace says, line by line.
use Rattle.std.specs.Prelude.{ℕ, ◌+◌, List, [], ◌∷◌, ◌++◌}
use Rattle.anb_trace.specs.Words.{SubjectValue, bytes_line, event_line}

-- lines of what is known or of an instruction; an event that is awaited; or an arrival or a message, with its bytes
pub data Said : Type 0 where
  lines : List ℕ → Said
  awaited : Said
  came : List ℕ → Said
  sent : List ℕ → Said

-- behind so many events: each of them has its line, and below it the bytes
abbrev pub said_text : SubjectValue → (events : ℕ) → List Said → List ℕ
said_text s events [] = []
said_text s events (lines text ∷ more) = text ++ said_text s events more
said_text s events (awaited ∷ more) = event_line s.protocol s.plan events ++ said_text s (events + 1) more
said_text s events (came bytes ∷ more) = (event_line s.protocol s.plan events ++ bytes_line bytes) ++ said_text s (events + 1) more
said_text s events (sent bytes ∷ more) = (event_line s.protocol s.plan events ++ bytes_line bytes) ++ said_text s (events + 1) more

-- the messages, in order
abbrev pub sent_in : List Said → List (List ℕ)
sent_in [] = []
sent_in (sent bytes ∷ more) = bytes ∷ sent_in more
sent_in (_ ∷ more) = sent_in more

-- the arrivals, in order
abbrev pub came_in : List Said → List (List ℕ)
came_in [] = []
came_in (came bytes ∷ more) = bytes ∷ came_in more
came_in (_ ∷ more) = came_in more
