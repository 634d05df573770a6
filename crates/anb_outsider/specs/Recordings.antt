-- A recording of another run: what came in a run in which the role drew other names.
use Rattle.std.specs.Prelude.{◌≡◌, ℕ, suc, ◌+◌, ◌<◌, ◌==◌, List, [], ◌∷◌, length, map, take, Bool, true, Some, slice_get, if◌then◌else◌}
use Rattle.std.specs.List.{list_any}
use Rattle.anb_term.specs.declared.term.Op.{Op}
use Rattle.anb_term.specs.Tree.{Tree, leaf, node}
use Rattle.anb_algebra.specs.ByteMeaning.{has_operator}
use Rattle.anb_plays.specs.Plans.{Event, know, fresh, send, recv}
use Rattle.anb_plays.specs.Honest.{heard}
use Rattle.anb_protocol.specs.Plays.{events_of}
use Rattle.anb_protocol.specs.Protocols.{ProtocolValue}
use Rattle.anb_unify.specs.Substitutions.{put_in}
use Rattle.anb_accept.specs.Taking.{Takes}
use Rattle.anb_outsider.specs.declared.recording.Recording.{Recording}
use Rattle.anb_outsider.specs.declared.recording.Recording.TheVariants.{Taken, Stops}

-- the names that a role draws, in order
abbrev pub drawn : List Event → List ℕ
drawn [] = []
drawn (know t ∷ es) = drawn es
drawn (fresh (leaf n) ∷ es) = n ∷ drawn es
drawn (fresh (node o ts) ∷ es) = drawn es
drawn (send t ∷ es) = drawn es
drawn (recv t ∷ es) = drawn es

abbrev pub is_drawn : List Event → ℕ → Bool
is_drawn plan n = list_any (λ m. m == n) (drawn plan)

-- how many messages are sent and received
abbrev pub messages_in : List Event → ℕ
messages_in [] = 0
messages_in (know t ∷ es) = messages_in es
messages_in (fresh t ∷ es) = messages_in es
messages_in (send t ∷ es) = suc (messages_in es)
messages_in (recv t ∷ es) = suc (messages_in es)

-- the role receives something at this place of its plan
abbrev pub ReceivesAt : List Event → ℕ → Type 0
ReceivesAt plan k = (t : Tree) × (slice_get plan k ≡ Some (recv t))

-- a name, or where it is one of those that were others, one that the narration doesn't have
abbrev pub other_name : ℕ → (ℕ → Bool) → ℕ → Tree
other_name names other n = leaf (if other n then names + n else n)

-- what came in a run as it is narrated, but with others in the places of these names
abbrev pub recorded : ℕ → (ℕ → Bool) → List Event → List Tree
recorded names other plan = map (put_in (other_name names other)) (heard plan)

module _ (has : Op → Bool) (names : ℕ) (plan : List Event) where
  -- the role takes what came in such a run, as far as the first so many events
  abbrev pub TakesTo : (ℕ → Bool) → ℕ → Type 0
  TakesTo other k = Takes has (take k plan) (recorded names other (take k plan))

  -- as far as each that it receives, it takes what came in a run in which it drew other names
  abbrev pub TakesRecording : Type 0
  TakesRecording = (k : ℕ) → ReceivesAt plan k → TakesTo (is_drawn plan) (k + 1)

  -- This event is the first where it doesn't. There it doesn't either where this name alone was another, and of the
  -- names that it draws this is the first such one.
  pub record StopsRecording (event name : ℕ) : Type 0 where
    pub place : ℕ
    pub receives : ReceivesAt plan place
    pub event_is : event ≡ messages_in (take (place + 1) plan)
    pub stops : TakesTo (is_drawn plan) (place + 1) → ⊥
    pub before : (k : ℕ) → k < place → ReceivesAt plan k → TakesTo (is_drawn plan) (k + 1)
    pub draw : ℕ
    pub name_is : slice_get (drawn plan) draw ≡ Some name
    pub for_name : TakesTo (λ n. n == name) (place + 1) → ⊥
    pub first : (i n : ℕ) → i < draw → slice_get (drawn plan) i ≡ Some n → TakesTo (λ m. m == n) (place + 1)

-- what comes of a recording of another run, of a plan
abbrev pub IsRecordingIn : ProtocolValue → List Event → Recording → Type 0
IsRecordingIn p plan Taken = TakesRecording (has_operator p.formats) (length p.atoms) plan
IsRecordingIn p plan (Stops event name) = StopsRecording (has_operator p.formats) (length p.atoms) plan event name

-- and of a role of a protocol
abbrev pub IsRecording : ProtocolValue → ℕ → Recording → Type 0
IsRecording p role recording = IsRecordingIn p (events_of p role) recording
