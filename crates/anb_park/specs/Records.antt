-- What a record of a parked session is, and why one is refused.
use Rattle.std.specs.Prelude.{◌≡◌, ◌≢◌, ℕ, ◌≤◌, ◌<◌, ◌^◌, ◌⊎◌, List, [], ◌∷◌, ◌++◌, length, take, drop, All}
use Rattle.anb_base.specs.declared.content.Suite.TheVariants.{One}
use Rattle.anb_base.specs.declared.TheConstants.{ARRIVAL}
use Rattle.anb_seal.specs.Primitives.{sealed}
use Rattle.anb_frame.specs.Frames.{frames, length_bytes}
use Rattle.anb_frame.specs.Cuts.{End, Cut}
use Rattle.anb_plays.specs.Plays.{Played, waiting}
use Rattle.anb_code.specs.CodeValue.{CodeValue}
use Rattle.anb_code.specs.Taking.{take_texts}
use Rattle.anb_machine.specs.ByteRuns.{run_bytes}
use Rattle.anb_park.specs.declared.resuming.ParkNo.{ParkNo}
use Rattle.anb_park.specs.declared.resuming.ParkNo.TheVariants.{Damaged, Body, Other, NotWaiting, NoMemory}

-- a session: whose it is, the seed and the number that its draws come from, its initial values, and
-- what arrived so far
pub record Parked : Type 0 where
  pub id : List ℕ
  pub seed : List ℕ
  pub session : ℕ
  pub init : List (List ℕ)
  pub arrivals : List (List ℕ)

-- "PK1"
abbrev pub marker : List ℕ
marker = 0x50 ∷ 0x4b ∷ 0x31 ∷ []

-- what a record holds
abbrev pub body_of : Parked → List ℕ
body_of p =
    marker ++ p.id ++ p.seed ++ length_bytes p.session ++ frames p.init ++ frames p.arrivals

-- the record: the body, sealed under a key
abbrev pub record_of : (key : List ℕ) → Parked → List ℕ
record_of key p = sealed One key (body_of p)

-- the session with these arrivals more
abbrev pub after : Parked → List (List ℕ) → Parked
after p more = record p { arrivals = p.arrivals ++ more }

-- how many initial values a code takes
abbrev pub count_takes : CodeValue → ℕ
count_takes code = length (take_texts code.instrs)

-- the parts have the sizes that they have in a body, and there are so many initial values
pub record HasSizes (takes : ℕ) (p : Parked) : Type 0 where
  pub id : length p.id ≡ 32
  pub seed : length p.seed ≡ 32
  pub session : p.session < 2 ^ 32
  pub init : length p.init ≡ takes
  pub values : All (λ b. length b ≤ ARRIVAL) p.init
  pub arrivals : All (λ b. length b ≤ ARRIVAL) p.arrivals

-- what comes of the session so far
abbrev pub play_of : CodeValue → Parked → Played (List ℕ)
play_of code p = run_bytes code p.init p.seed p.session p.arrivals

-- it waits, and has used all arrivals
abbrev pub IsWaiting : CodeValue → Parked → Type 0
IsWaiting code p =
    (e : ℕ) × ((play_of code p).end ≡ waiting e) × ((play_of code p).left ≡ [])

-- m is no body of a session with so many initial values: another beginning, fewer than 71 bytes, a
-- tail behind its frames, or fewer frames than initial values
abbrev pub IsNoBody : (takes : ℕ) → List ℕ → Type 0
IsNoBody takes m =
    (take 3 m ≢ marker)
    ⊎ (length m < 71)
    ⊎ ((bs : List (List ℕ)) → Cut ARRIVAL (drop 71 m) bs End → ⊥)
    ⊎ ((bs : List (List ℕ)) × Cut ARRIVAL (drop 71 m) bs End × (length bs < takes))

-- sessions with so many initial values and with this identity, and which of them wait
module _ (takes : ℕ) (Waits : Parked → Type 0) (id : List ℕ) where
  -- why what a record holds is refused: it is no body, another's body, or that of a session that
  -- doesn't wait
  abbrev pub RefusesBody : List ℕ → ParkNo → Type 0
  RefusesBody m Damaged = ⊥
  RefusesBody m Body = IsNoBody takes m
  RefusesBody m Other = (p : Parked) × (m ≡ body_of p) × HasSizes takes p × (p.id ≢ id)
  RefusesBody m NotWaiting =
      (p : Parked) × (m ≡ body_of p) × HasSizes takes p × (p.id ≡ id) × (Waits p → ⊥)
  RefusesBody m NoMemory = Unit {0}

  -- m is the body of this session, which waits
  pub record AcceptsBody (m : List ℕ) (p : Parked) : Type 0 where
    pub whole : m ≡ body_of p
    pub sizes : HasSizes takes p
    pub own : p.id ≡ id
    pub waits : Waits p

  module _ (key parked : List ℕ) where
    -- the same of records under a key. What isn't sealed under it is damaged
    abbrev pub Refuses : ParkNo → Type 0
    Refuses Damaged = (m : List ℕ) → sealed One key m ≢ parked
    Refuses NoMemory = Unit {0}
    Refuses why = (m : List ℕ) × (sealed One key m ≡ parked) × RefusesBody m why

    pub record Accepts (p : Parked) : Type 0 where
      pub whole : parked ≡ record_of key p
      pub body : AcceptsBody (body_of p) p

-- a record that is accepted, as one that was written is, is refused for no cause
abbrev pub AcceptedIsNotRefused : Type 0
AcceptedIsNotRefused = (code : CodeValue) (id key parked : List ℕ) (p : Parked) (why : ParkNo)
    → Accepts (count_takes code) (IsWaiting code) id key parked p
    → Refuses (count_takes code) (IsWaiting code) id key parked why → why ≡ NoMemory

-- it has one cause at most
abbrev pub HasOneCause : Type 0
HasOneCause = (code : CodeValue) (id key parked : List ℕ) (why other : ParkNo)
    → Refuses (count_takes code) (IsWaiting code) id key parked why
    → Refuses (count_takes code) (IsWaiting code) id key parked other
    → why ≢ NoMemory → other ≢ NoMemory → why ≡ other

-- and it is the record of one session
abbrev pub RecordsAreApart : Type 0
RecordsAreApart = (takes : ℕ) (key : List ℕ) (p q : Parked)
    → HasSizes takes p → HasSizes takes q → record_of key p ≡ record_of key q → p ≡ q
