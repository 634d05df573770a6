-- Where a role has a term from: the event of its plan from which on it can have it; or it builds it.
use Rattle.std.specs.Prelude.{◌≡◌, ◌⊎◌, ℕ, ◌+◌, ◌≤◌, List, take, Bool, true, false, Some, slice_get}
use Rattle.anb_term.specs.Tree.{Tree}
use Rattle.anb_term.specs.Agree.{HasRecipe}
use Rattle.anb_algebra.specs.ByteMeaning.{has_operator}
use Rattle.anb_protocol.specs.Plans.{PlanEvent, to_know, to_make, to_send, to_receive}
use Rattle.anb_protocol.specs.Protocols.{ProtocolValue}
use Rattle.anb_compile.specs.Unsent.{labels_of}
use Rattle.anb_reason.specs.Decided.{is_among}
use Rattle.anb_lack.specs.Opened.{opened}
use Rattle.anb_lack.specs.declared.origins.Origin.{Origin}
use Rattle.anb_lack.specs.declared.origins.Origin.TheVariants.{Built, Known, Made, Received}

-- some recipe over what the first n events of a plan bring gives a term
abbrev pub HasBy : ProtocolValue → List PlanEvent → ℕ → Tree → Type 0
HasBy p plan n t = HasRecipe (has_operator p.formats) (labels_of (take n plan)) t

-- Event n of a plan, numbered from 0, is the one from which on the role can have a term: some recipe over
-- what the events up to it bring gives the term, and none over what fewer bring.
pub record IsOrigin (p : ProtocolValue) (plan : List PlanEvent) (t : Tree) (n : ℕ) (e : PlanEvent) : Type 0 where
  pub event : slice_get plan n ≡ Some e
  pub has : HasBy p plan (n + 1) t
  pub new : (m : ℕ) → m ≤ n → HasBy p plan m t → ⊥

-- where what an event brings is from
abbrev pub IsFrom : PlanEvent → Origin → Type 0
IsFrom (to_know t) origin = origin ≡ Known
IsFrom (to_make t) origin = origin ≡ Made
IsFrom (to_send action t) origin = ⊥
IsFrom (to_receive action t) origin = origin ≡ Received action

-- A term comes from where its event is; one that needs no event, as a format without fields, is known.
abbrev pub ComesFrom : ProtocolValue → List PlanEvent → Tree → Origin → Type 0
ComesFrom p plan t origin =
    (HasBy p plan 0 t × (origin ≡ Known)) ⊎ ((n : ℕ) × (e : PlanEvent) × IsOrigin p plan t n e × IsFrom e origin)

-- it comes out of what the role has, which are these terms, by the end of these events
abbrev pub is_out : List Tree → List PlanEvent → Tree → Bool
is_out S before t = is_among (opened S (labels_of before)) t

-- where a term of the list is from: a term that comes out of nothing is built
abbrev pub IsListedFrom : ProtocolValue → (S : List Tree) → (plan before : List PlanEvent) → Tree → Origin → Type 0
IsListedFrom p S plan before t origin =
    ((is_out S before t ≡ true) × ComesFrom p plan t origin) ⊎ ((is_out S before t ≡ false) × (origin ≡ Built))
