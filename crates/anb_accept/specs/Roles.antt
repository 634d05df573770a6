-- The patterns of a role of a protocol, and what is said of them.
use Rattle.std.specs.Prelude.{◌≡◌, ℕ, List, length, take}
use Rattle.anb_term.specs.Tree.{Tree}
use Rattle.anb_algebra.specs.ByteMeaning.{has_operator}
use Rattle.anb_pattern.specs.Taken.{TakenValue, taken_of}
use Rattle.anb_plays.specs.Plans.{Event}
use Rattle.anb_protocol.specs.Plans.{PlanEvent, plan_of}
use Rattle.anb_protocol.specs.Plays.{events_of}
use Rattle.anb_protocol.specs.Protocols.{ProtocolValue}
use Rattle.anb_accept.specs.Numbering.{AreNumbered}
use Rattle.anb_accept.specs.Patterns.{ArePatterns}

-- what these events of a plan take is exactly what these have as instances
pub record ArePatternsIn (p : ProtocolValue) (plan : List Event) (patterns : List Tree) : Type 0 where
  pub exact : ArePatterns (has_operator p.formats) (length p.atoms) plan patterns
  pub numbered : AreNumbered (length p.atoms) patterns

-- what the role takes
abbrev pub ArePatternsOf : ProtocolValue → ℕ → List Tree → Type 0
ArePatternsOf p role patterns = ArePatternsIn p (events_of p role) patterns

-- the first so many events of a role's plan
pub record AreFirst (p : ProtocolValue) (events : List PlanEvent) : Type 0 where
  pub role : ℕ
  pub many : ℕ
  pub is : events ≡ take many (plan_of p role)

-- what is said of a role, by its patterns
pub record IsTakenBy (p : ProtocolValue) (role : ℕ) (taken : TakenValue) : Type 0 where
  pub patterns : List Tree
  pub are : ArePatternsOf p role patterns
  pub is : taken ≡ taken_of p role patterns
