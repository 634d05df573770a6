-- For proofs alone: a walk over the instructions of a code.
use Rattle.std.specs.Prelude.{◌≡◌, ◌+◌, ℕ, nat_lt, List, [], ◌∷◌, ◌++◌, length, map, if◌then◌else◌}
use Rattle.anb_term.specs.Tree.{Tree}
use Rattle.anb_plays.specs.Plans.{Event, known}
use Rattle.anb_plays.specs.Codes.{Act, takes, draws, receives, sends, works}
use Rattle.anb_plays.specs.Exec.{count_written}
use Rattle.anb_protocol.specs.declared.plans.Event as code
use Rattle.anb_protocol.specs.Plays.{event_of}
use Rattle.anb_protocol.specs.Views.{plan_event}
use Rattle.anb_unify.specs.Equations.{EquationValue}
use Rattle.anb_unify.specs.Views.{equation_value}
use Rattle.anb_probe.specs.Cases.{drawn, less}
use Rattle.anb_distinguish.specs.Equations.{equations_from, equations_of, held_from, received_from}
use Rattle.anb_suite.specs.declared.reading.Reading.{Reading}
use Rattle.anb_suite.specs.declared.reading.Reading.TheVariants.{Both, First, Second}
use Rattle.anb_suite.specs.declared.walking.Walk.{Walk}
use Rattle.anb_suite.specs.Reading.{act_for}

-- the events of a plan
abbrev pub events_in : List code.Event → List Event
events_in events = map event_of (map plan_event events)

-- which register of a check is read for which behind it
abbrev pub gone_by : Reading → (a b : ℕ) → ℕ
gone_by Both a b = a
gone_by First a b = b
gone_by Second a b = a

abbrev pub used_by : Reading → (a b : ℕ) → ℕ
used_by Both a b = a
used_by First a b = a
used_by Second a b = b

-- an act as it is read with so many before it
abbrev pub act_at : (check gone used at : ℕ) → Act → Act
act_at check gone used at act = if nat_lt at check then act else act_for gone used act

-- the registers that are sent, in order
abbrev pub sent_in : List Act → List ℕ
sent_in [] = []
sent_in (takes ∷ acts) = sent_in acts
sent_in (draws ∷ acts) = sent_in acts
sent_in (receives ∷ acts) = sent_in acts
sent_in (sends r ∷ acts) = r ∷ sent_in acts
sent_in (works w ∷ acts) = sent_in acts

-- how many registers an act writes, where what is taken was written before
abbrev pub count_by_act : Act → ℕ
count_by_act takes = 0
count_by_act draws = 1
count_by_act receives = 1
count_by_act (sends r) = 0
count_by_act (works w) = count_written w

abbrev pub count_drawn : Act → ℕ
count_drawn takes = 0
count_drawn draws = 1
count_drawn receives = 0
count_drawn (sends r) = 0
count_drawn (works w) = 0

-- a walk took one act more
pub record HasStepped (names : ℕ) (draw : ℕ → Tree) (act : Act) (old new : Walk) : Type 0 where
  pub equations : map equation_value new.equations.items ≡ map equation_value old.equations.items ++ equations_from names draw (act ∷ []) old.next old.drawn
  pub received : new.received.items ≡ old.received.items ++ received_from (act ∷ []) old.next
  pub sent : new.sent.items ≡ old.sent.items ++ sent_in (act ∷ [])
  pub next : new.next ≡ old.next + count_by_act act
  pub drawn : new.drawn ≡ old.drawn + count_drawn act

-- it is over, and these acts are left
pub record IsWalkedTo (names : ℕ) (draw : ℕ → Tree) (equations : List EquationValue) (received sent : List ℕ) (lacking acts : List Act) (walk : Walk) : Type 0 where
  pub equations_are : map equation_value walk.equations.items ++ equations_from names draw lacking walk.next walk.drawn ≡ equations
  pub received_are : walk.received.items ++ received_from acts walk.next ≡ received
  pub sent_are : walk.sent.items ++ sent_in acts ≡ sent

-- what it comes to: the equations of a code less a check, and the registers that come and go
pub record IsWalked (names : ℕ) (plan : List Event) (acts : List Act) (check : ℕ) (walk : Walk) : Type 0 where
  pub equations : map equation_value walk.equations.items ≡ equations_of names (known plan) (drawn plan) (less check acts)
  pub received : walk.received.items ≡ received_from acts (length (known plan))
  pub sent : walk.sent.items ≡ sent_in acts

-- before the first act: what is known is held
pub record IsBegun (plan : List Event) (walk : Walk) : Type 0 where
  pub equations : map equation_value walk.equations.items ≡ held_from (known plan) 0
  pub received : walk.received.items ≡ []
  pub sent : walk.sent.items ≡ []
  pub next : walk.next ≡ length (known plan)
  pub drawn : walk.drawn ≡ 0

-- what is known of the first events is held, and these are left
pub record IsBegunTo (plan rest : List Event) (walk : Walk) : Type 0 where
  pub equations : map equation_value walk.equations.items ++ held_from (known rest) walk.next ≡ held_from (known plan) 0
  pub received : walk.received.items ≡ []
  pub sent : walk.sent.items ≡ []
  pub next : walk.next + length (known rest) ≡ length (known plan)
  pub drawn : walk.drawn ≡ 0

-- what is known of these events more is held
pub record HasHeld (more : List Event) (old new : Walk) : Type 0 where
  pub equations : map equation_value new.equations.items ≡ map equation_value old.equations.items ++ held_from (known more) old.next
  pub received : new.received.items ≡ old.received.items
  pub sent : new.sent.items ≡ old.sent.items
  pub next : new.next ≡ old.next + length (known more)
  pub drawn : new.drawn ≡ old.drawn
