-- Children that play their roles honestly, and what holds of a stage of them.
use Rattle.std.specs.Prelude.{◌≡◌, ℕ, ◌+◌, ◌<◌, ◌≤◌, List, [], ◌∷◌, ◌++◌, length, map, flat_map, slice_get, All, Some, None}
use Rattle.anb_base.specs.Bytes.{IsBytes}
use Rattle.anb_base.specs.declared.TheConstants.{ARRIVAL}
use Rattle.anb_term.specs.Tree.{Tree}
use Rattle.anb_frame.specs.Frames.{frames}
use Rattle.anb_frame.specs.Cuts.{Tail}
use Rattle.anb_plays.specs.Plays.{Played, Play, stopped, done}
use Rattle.anb_plays.specs.Honest.{made}
use Rattle.anb_protocol.specs.Choices.{each_after}
use Rattle.anb_protocol.specs.Protocols.{ActionValue, ProtocolValue}
use Rattle.anb_protocol.specs.Texts.{known_by}
use Rattle.anb_protocol.specs.Plays.{IsSendable, events_of, honest_bytes, meaning_of}
use Rattle.anb_protocol.specs.Schedules.{IsComplete}
use Rattle.anb_stage.specs.Children.{Child}
use Rattle.anb_stage.specs.Relays.{Message, AreCut, AreGood, bytes_to, ends_of, messages, missing}

-- the sender and the receiver of each action, as the turns of a schedule
abbrev pub turns_of : ProtocolValue → List ℕ
turns_of p = flat_map (λ (a : ActionValue). a.from ∷ a.to ∷ []) p.actions

-- for these bytes of the atoms
module _ (p : ProtocolValue) (atoms : ℕ → List ℕ) where
  -- a message with the honest bytes of its term
  abbrev pub honest_message : List ActionValue → ActionValue → List Message
  honest_message before a =
      record {
        action = length before + 1;
        to = a.to;
        bytes = honest_bytes p atoms a.message;
      } ∷ []

  abbrev pub honest_messages : List ActionValue → List Message
  honest_messages actions = each_after honest_message [] actions

  -- each name has its maker's draw
  abbrev pub AreMade : (ℕ → ℕ → List ℕ) → Type 0
  AreMade draws =
      (role i : ℕ) (t : Tree) → role < length p.roles
      → slice_get (made (events_of p role)) i ≡ Some t → draws role i ≡ honest_bytes p atoms t

  -- the play of a role over what it hears, where what it knows has its honest bytes
  abbrev pub IsPlayOf : (ℕ → List ℕ) → (role : ℕ) → (heard : List (List ℕ)) → Played (List ℕ) → Type 0
  IsPlayOf draw role heard play =
      Play (meaning_of p) draw (events_of p role) (map (honest_bytes p atoms) (known_by p role))
      heard play

  -- A child's output is the frames of what it sends in that play, none of which is too long. Its
  -- status is 0 where the play is done.
  pub record IsHonestChild (draw : ℕ → List ℕ) (role : ℕ) (heard : List (List ℕ)) (child : Child)
      : Type 0 where
    pub play : Played (List ℕ)
    pub plays : IsPlayOf draw role heard play
    pub says : child.left ≡ Some (frames play.sent)
    pub short : All (λ b. length b ≤ ARRIVAL) play.sent
    pub ends : play.end ≡ done → child.status ≡ Some 0

  -- all do so, where the messages of these actions are relayed
  abbrev pub AreHonestChildren :
      (ℕ → ℕ → List ℕ) → (ℕ → List (List ℕ)) → List ActionValue → (ℕ → Child) → Type 0
  AreHonestChildren draws outputs relayed children =
      (role : ℕ) → role < length p.roles
      → IsHonestChild (draws role) role (bytes_to outputs role (map ends_of relayed)) (children role)

-- What holds where all children are honest, whether all messages were relayed or the first of them.
abbrev pub StagesAreHonest : ProtocolValue → Type 0
StagesAreHonest p =
    (atoms : ℕ → List ℕ) (draws : ℕ → ℕ → List ℕ) (children : ℕ → Child)
    (outputs : ℕ → List (List ℕ)) (tails : ℕ → Tail) (relayed rest : List ActionValue)
    → ((a : ℕ) → IsBytes (atoms a)) → IsSendable p → AreMade p atoms draws
    → p.actions ≡ relayed ++ rest → AreCut (length p.roles) children outputs tails
    → AreHonestChildren p atoms draws outputs relayed children
    -- each message that was relayed has the honest bytes of its term, and none is missing
    → (messages outputs (map ends_of relayed) ≡ honest_messages p atoms relayed)
    × (missing outputs tails (map ends_of relayed) ≡ None)
    -- no play stops
    × ((role e at : ℕ) (play : Played (List ℕ)) → role < length p.roles
    → IsPlayOf p atoms (draws role) role (bytes_to outputs role (map ends_of relayed)) play
    → play.end ≡ stopped e at → ⊥)
    -- where all were relayed, each child ends well
    × (rest ≡ [] → AreGood children (length p.roles))

-- the turns of senders and receivers are a complete schedule
abbrev pub RelaysAreComplete : ProtocolValue → Type 0
RelaysAreComplete p = IsComplete p (turns_of p)
