-- For proofs alone: what is known of first events of a plan while the first stop is looked for.
use Rattle.std.specs.Prelude.{◌≡◌, ℕ, ◌+◌, ◌<◌, ◌==◌, List, [], ◌∷◌, map, Bool, true, false, Some, slice_get}
use Rattle.anb_term.specs.declared.term.Op.{Op}
use Rattle.anb_plays.specs.Plans.{Event, know, fresh, send, recv}
use Rattle.anb_protocol.specs.Plans.{plan_of}
use Rattle.anb_protocol.specs.Protocols.{ProtocolValue}
use Rattle.anb_protocol.specs.Views.{plan_event}
use Rattle.anb_protocol.specs.declared.plans.Event as code
use Rattle.anb_outsider.specs.Recordings.{drawn, is_drawn, TakesTo}

-- the events of a role's plan
pub record IsWhole (p : ProtocolValue) (events : List code.Event) : Type 0 where
  pub role : ℕ
  pub is : map plan_event events ≡ plan_of p role

abbrev pub receives : Event → Bool
receives (know t) = false
receives (fresh t) = false
receives (send t) = false
receives (recv t) = true

abbrev pub is_message : Event → Bool
is_message (know t) = false
is_message (fresh t) = false
is_message (send t) = true
is_message (recv t) = true

-- the places after each that is received, where so many events come before
abbrev pub ends_from : ℕ → List Event → List ℕ
ends_from k [] = []
ends_from k (know t ∷ es) = ends_from (k + 1) es
ends_from k (fresh t ∷ es) = ends_from (k + 1) es
ends_from k (send t ∷ es) = ends_from (k + 1) es
ends_from k (recv t ∷ es) = (k + 1) ∷ ends_from (k + 1) es

abbrev pub IsUncounted : List ℕ → ℕ → Type 0
IsUncounted counts n = (c : ℕ) → slice_get counts n ≡ Some c → c ≡ 0

-- the first of these that is counted
pub record IsFirstCounted (counts names : List ℕ) (name : ℕ) : Type 0 where
  pub draw : ℕ
  pub is : slice_get names draw ≡ Some name
  pub count : ℕ
  pub counted : slice_get counts name ≡ Some count
  pub some : count ≡ 0 → ⊥
  pub first : (i n : ℕ) → i < draw → slice_get names i ≡ Some n → IsUncounted counts n

module _ (has : Op → Bool) (names : ℕ) (plan : List Event) where
  -- as far as so many events it takes what came in a run with other names, whichever of those that it draws they are
  abbrev pub GoesTo : ℕ → Type 0
  GoesTo k = (other : ℕ → Bool) → ((n : ℕ) → other n ≡ true → is_drawn plan n ≡ true) → TakesTo has names plan other k

  -- and it doesn't where this one is among them, which is the first such one
  pub record StopsFor (k name : ℕ) : Type 0 where
    pub draw : ℕ
    pub is : slice_get (drawn plan) draw ≡ Some name
    pub stops : (other : ℕ → Bool) → other name ≡ true → TakesTo has names plan other k → ⊥
    pub first : (i n : ℕ) → i < draw → slice_get (drawn plan) i ≡ Some n → TakesTo has names plan (λ m. m == n) k
