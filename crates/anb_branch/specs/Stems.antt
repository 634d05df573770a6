-- A run that passes from one machine to another behind some arrivals.
use Rattle.std.specs.Prelude.{◌≡◌, ◌≢◌, ◌≤◌, ◌<◌, ℕ, List, [], ◌∷◌, ◌++◌, length, drop, true}
use Rattle.std.specs.List.{AllByRecursion}
use Rattle.anb_base.specs.Bytes.{IsBytes}
use Rattle.anb_base.specs.Wires.{WireState}
use Rattle.anb_base.specs.declared.TheConstants.{ARRIVAL}
use Rattle.anb_frame.specs.Cuts.{CutLeft, Tail}
use Rattle.anb_plays.specs.Plays.{Played, waiting, ends, Run}
use Rattle.anb_plays.specs.Runs.{without_place}
use Rattle.anb_plays.specs.Statements.{Grows}
use Rattle.anb_machine.specs.Machines.{MachineValue, gives, left, waits}
use Rattle.anb_session.specs.declared.PlayEnd.{PlayEnd}
use Rattle.anb_session.specs.declared.PlayEnd.TheVariants.{NoMemory, Stopped}
use Rattle.anb_session.specs.Faults.{IsQuiet, TellsEnd}
use Rattle.anb_session.specs.Sessions.{waits_at}
use Rattle.anb_session.specs.Standing.{StandsAt}
use Rattle.anb_session.specs.Turns.{AwaitsNow, Closes, Hears, Passes, Receives}
use Rattle.anb_branch.specs.declared.stem.Step.{Step}
use Rattle.anb_branch.specs.declared.stem.Step.TheVariants.{On, Arrived, Over}

abbrev pub AreBytes : List (List ℕ) → Type 0
AreBytes strings = AllByRecursion IsBytes strings

abbrev pub AreShort : List (List ℕ) → Type 0
AreShort strings = AllByRecursion (λ b. length b ≤ ARRIVAL) strings

-- these messages, and then what a play gives
abbrev pub said : List (List ℕ) → Played (List ℕ) → Played (List ℕ)
said sent p = record p { sent = sent ++ p.sent }

-- a machine gives what the run G gives behind these arrivals and messages
pub record StandsBehind (G : Run) (past sent : List (List ℕ)) (v : MachineValue) : Type 0 where
  pub comes : (more : List (List ℕ)) → G (past ++ more) ≡ said sent (gives v more)

-- Over these arrivals R is G, but for the instruction of a stop, and over more it goes on from
-- there.
pub record AgreesAt (R G : Run) (past : List (List ℕ)) : Type 0 where
  pub same : R past ≡ without_place (G past)
  pub grows : (more : List (List ℕ)) → Grows (R past) (R (past ++ more)) more

-- over few arrivals, at most n
abbrev pub AgreeUpTo : ℕ → Run → Run → Type 0
AgreeUpTo n R G =
    (past : List (List ℕ)) → length past ≤ n → AreBytes past → AgreesAt R G past

-- what the run R gives behind these arrivals and so many messages
abbrev pub behind : Run → List (List ℕ) → ℕ → Run
behind R past k more = record (R (past ++ more)) { sent = drop k (R (past ++ more)).sent }

-- a turn before the choice: of the run G by a machine, over few arrivals
module _ (n : ℕ) (old new : MachineValue) (past past' : List (List ℕ)) (s t : WireState) where
  pub record GoesOn : Type 0 where
    pub further : left new < left old
    pub few : length past' ≤ n
    pub bytes : AreBytes past'
    pub short : AreShort past'
    pub each : (R G : Run) (sent : List (List ℕ)) → AgreeUpTo n R G → StandsBehind G past sent old
        → (sent' : List (List ℕ)) × StandsBehind G past' sent' new
        × Passes (behind R past (length sent)) (behind R past' (length sent')) s t

  pub record Arrives (b : List ℕ) : Type 0 where
    pub waits : waits new ≡ true
    pub event : ℕ
    pub next : gives new [] ≡ ends (waiting event) []
    pub fits : length b ≤ ARRIVAL
    pub bytes : IsBytes b
    pub stays : past' ≡ past
    pub all : length past ≡ n
    pub same : (more : List (List ℕ)) → gives old more ≡ gives new more
    pub hears : Hears event b s t

  pub record IsOver (end : PlayEnd) : Type 0 where
    pub each : (R G : Run) (sent : List (List ℕ)) → AgreeUpTo n R G → StandsBehind G past sent old
        → Closes (behind R past (length sent)) s t end

  abbrev pub Steps : Step → Type 0
  Steps On = GoesOn
  Steps (Arrived b) = Arrives b
  Steps (Over end) = IsOver end

-- how the wire's faults stand to a step
abbrev pub TellsStep : (s t : WireState) → Step → Type 0
TellsStep s t (Over end) = TellsEnd s t end
TellsStep s t step = IsQuiet s t

-- all turns up to the choice
module _ (n : ℕ) (old new : MachineValue) (s t : WireState) where
  pub record Chooses (past : List (List ℕ)) (b : List ℕ) : Type 0 where
    pub waits : waits new ≡ true
    pub event : ℕ
    pub next : gives new [] ≡ ends (waiting event) []
    pub fits : length b ≤ ARRIVAL
    pub bytes : IsBytes b
    pub all : length past ≡ n
    pub past_bytes : AreBytes past
    pub short : AreShort past
    pub each : (R G : Run) → AgreeUpTo n R G → ((more : List (List ℕ)) → G more ≡ gives old more)
        → (sent : List (List ℕ)) × StandsBehind G past sent new
        × ((event : ℕ) × (gives new [] ≡ ends (waiting event) []))
        × ((R' : Run) → ((more : List (List ℕ)) → behind R past (length sent) (b ∷ more) ≡ R' more)
        → Passes R R' s t)

  abbrev pub EndsBefore : PlayEnd → Type 0
  EndsBefore end =
      (R G : Run) → AgreeUpTo n R G → ((more : List (List ℕ)) → G more ≡ gives old more)
      → Closes R s t end

-- a machine gives the rest of what it gave, behind these arrivals, where it waits
pub record RunsTo (old : MachineValue) (past : List (List ℕ)) (new : MachineValue) : Type 0 where
  pub waits : waits new ≡ true
  pub sent : List (List ℕ)
  pub stands : StandsBehind (gives old) past sent new
  pub event : ℕ
  pub next : gives new [] ≡ ends (waiting event) []

-- a run waits behind these arrivals, with all used
pub record WaitsAt (F : Run) (past : List (List ℕ)) : Type 0 where
  pub event : ℕ
  pub end : (F past).end ≡ waiting event
  pub used : (F past).left ≡ []

-- how a session ended, without the instruction of its stop
abbrev pub no_halt : PlayEnd → PlayEnd
no_halt (Stopped halt) = Stopped (record { event = halt.event; at = 0 })
no_halt end = end

-- ---- what is true of what is played

module _ {A : Type 0} (Follows : A → List (List ℕ) → A → Type 0) (x y : A) where
  -- It went on by these arrivals, and by the first of those that were left, to this end, but for the
  -- instruction of a stop.
  pub record CameBy (machine : MachineValue) (before : List (List ℕ)) (old : WireState) (end : PlayEnd) : Type 0 where
    pub stop : PlayEnd
    pub is : end ≡ no_halt stop
    pub used : List (List ℕ)
    pub follows : Follows x (before ++ used) y
    pub first : (arrivals : List (List ℕ)) (tail : Tail) → CutLeft ARRIVAL old.left arrivals tail
        → (rest : List (List ℕ)) × (arrivals ≡ used ++ rest)
    pub stands : StandsAt machine stop
    pub awaits : waits_at stop ≡ true → AwaitsNow machine

  -- it went on by these arrivals, the first of those that were left, and the next one is this
  pub record HeardUpTo (past : List (List ℕ)) (b : List ℕ) (old new : WireState) : Type 0 where
    pub follows : Follows x past y
    pub first : (arrivals : List (List ℕ)) (tail : Tail) → CutLeft ARRIVAL old.left arrivals tail
        → (rest : List (List ℕ)) × (arrivals ≡ past ++ b ∷ rest) × CutLeft ARRIVAL new.left rest tail

  -- it went on by these arrivals, the first of those that were left
  pub record WentBy (used : List (List ℕ)) (old new : WireState) : Type 0 where
    pub follows : Follows x used y
    pub first : (arrivals : List (List ℕ)) (tail : Tail) → CutLeft ARRIVAL old.left arrivals tail
        → (rest : List (List ℕ)) × (arrivals ≡ used ++ rest) × CutLeft ARRIVAL new.left rest tail

  -- by what a step comes to, before and after which these arrivals are kept
  module _ (machine : MachineValue) (past past' : List (List ℕ)) (s t : WireState) where
    -- at this end nothing more is heard
    pub record StopsAt (end : PlayEnd) : Type 0 where
      pub stop : PlayEnd
      pub is : end ≡ no_halt stop
      pub follows : Follows x [] y
      pub stands : StandsAt machine stop
      pub awaits : waits_at stop ≡ true → AwaitsNow machine

    abbrev pub GoesAlong : Step → Type 0
    GoesAlong On = (used : List (List ℕ)) × WentBy used s t × (past' ≡ past ++ used)
    GoesAlong (Arrived b) = Follows x [] y × Receives b s.left t.left
    GoesAlong (Over end) = end ≢ NoMemory → StopsAt end

-- by so many arrivals at most
abbrev pub CameWithin : {A : Type 0} → ℕ → (Follows : A → List (List ℕ) → A → Type 0) → (x y : A) → MachineValue → WireState → PlayEnd → Type 0
CameWithin n Follows x y machine old end = (came : CameBy Follows x y machine [] old end) × (length came.used ≤ n)
