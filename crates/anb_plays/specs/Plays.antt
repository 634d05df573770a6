-- What comes of a plan, for initial values, draws and arrivals.
use Rattle.std.specs.Prelude.{◌≡◌, ℕ, ◌+◌, List, [], ◌∷◌, ◌++◌, ◌⊎◌}
use Rattle.anb_term.specs.Tree.{Tree}
use Rattle.anb_term.specs.Value.{Meaning}
use Rattle.anb_term.specs.Agree.{Agree, Gives}
use Rattle.anb_plays.specs.Plans.{Event, know, fresh, send, recv, known}

-- how it ends: stopped at an event and an instruction, waiting for an arrival at an event, or after the last event.
-- A play says nothing of instructions: its stops have instruction 0
pub data End : Type 0 where
  stopped : ℕ → ℕ → End
  waiting : ℕ → End
  done : End

-- the messages, how it ends, and the arrivals that were not used
pub record Played (A : Type 0) : Type 0 where
  pub sent : List A
  pub end : End
  pub left : List A

abbrev pub ends : {A : Type 0} → End → List A → Played A
ends x arrivals = record { sent = []; end = x; left = arrivals }

abbrev pub says : {A : Type 0} → A → Played A → Played A
says b p = record p { sent = b ∷ p.sent }

-- what comes of a run over bytes, for whatever arrivals
abbrev pub Run : Type 0
Run = List (List ℕ) → Played (List ℕ)

-- it sends these first, and then does what the other does
abbrev pub SendsFirst : Played (List ℕ) → (sent : List (List ℕ)) → Played (List ℕ) → Type 0
SendsFirst p sent q = p ≡ record q { sent = sent ++ q.sent }

module _ {A : Type 0} (m : Meaning A) where
  -- where the labels' values agree with their terms it goes on, and where they don't it stops at event e
  abbrev pub Judge : List Tree → List A → ℕ → List A → Played A → Type 0 → Type 0
  Judge frame vs e arrivals p GoesOn = (Agree m frame vs × GoesOn) ⊎ ((Agree m frame vs → ⊥) × (p ≡ ends (stopped e 0) arrivals))

  module _ (draw : ℕ → A) where
    -- p comes of these events, over labels with these terms and values, after e sends and receives and i draws
    abbrev pub Walk : List Event → List Tree → List A → ℕ → ℕ → List A → Played A → Type 0
    Walk [] frame vs e i arrivals p = p ≡ ends done arrivals
    Walk (know t ∷ es) frame vs e i arrivals p = Walk es frame vs e i arrivals p
    Walk (fresh t ∷ es) frame vs e i arrivals p = Walk es (frame ++ t ∷ []) (vs ++ draw i ∷ []) e (i + 1) arrivals p
    Walk (send t ∷ es) frame vs e i arrivals p =
        (b : A) × (q : Played A) × Gives m frame vs t b × Walk es frame vs (e + 1) i arrivals q × (p ≡ says b q)
    Walk (recv t ∷ es) frame vs e i [] p = p ≡ ends (waiting (e + 1)) []
    Walk (recv t ∷ es) frame vs e i (x ∷ arrivals) p =
        Judge (frame ++ t ∷ []) (vs ++ x ∷ []) (e + 1) arrivals p (Walk es (frame ++ t ∷ []) (vs ++ x ∷ []) (e + 1) i arrivals p)

    -- p is a play of the plan
    abbrev pub Play : List Event → List A → List A → Played A → Type 0
    Play plan init arrivals p = Judge (known plan) init 0 arrivals p (Walk plan (known plan) init 0 0 arrivals p)
