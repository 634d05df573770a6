-- Sessions of a role that can be parked, and what comes of them.
use Rattle.std.specs.Prelude.{◌≡◌, ℕ, List, [], ◌++◌, length}
use Rattle.anb_park.specs.Records.{Parked, after}
use Rattle.anb_plays.specs.Plays.{Played, waiting}
use Rattle.anb_protocol.specs.Plays.{IsPlay}
use Rattle.anb_protocol.specs.Protocols.{ProtocolValue}
use Rattle.anb_protocol.specs.Texts.{known_texts}

-- a session of a role, and the key of its records
pub record RoleSession : Type 0 where
  pub protocol : ProtocolValue
  pub role : ℕ
  pub parked : Parked
  pub key : List ℕ

-- how many initial values a session has: one for each term that the role knows
abbrev pub count_known : ProtocolValue → (role : ℕ) → ℕ
count_known p role = length (known_texts p role)

-- the play of a session over all that has arrived
abbrev pub IsPlayOf : ProtocolValue → (role : ℕ) → Parked → Played (List ℕ) → Type 0
IsPlayOf p role s play = IsPlay p role s.init s.seed s.session s.arrivals play

-- it waits, and has used all arrivals
abbrev pub WaitsIn : ProtocolValue → (role : ℕ) → Parked → Type 0
WaitsIn p role s =
    (play : Played (List ℕ)) × IsPlayOf p role s play
    × ((e : ℕ) × (play.end ≡ waiting e)) × (play.left ≡ [])

-- what comes of a new session over these arrivals: its play
abbrev pub Begins : RoleSession → List (List ℕ) → Played (List ℕ) → Type 0
Begins s more p = IsPlayOf s.protocol s.role (after s.parked more) p

-- what comes of a session that goes on over these arrivals: its play over the earlier ones and
-- these, but for the messages that its play over the earlier ones has sent
pub record GoesOn (s : RoleSession) (more : List (List ℕ)) (p : Played (List ℕ)) : Type 0 where
  pub earlier : Played (List ℕ)
  pub was : IsPlayOf s.protocol s.role s.parked earlier
  pub plays : IsPlayOf s.protocol s.role (after s.parked more)
      (record p { sent = earlier.sent ++ p.sent })
