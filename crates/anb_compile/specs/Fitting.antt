-- When a code is one for a role of a protocol.
use Rattle.std.specs.Prelude.{◌≡◌, ◌≤◌, ℕ, List, length, Some, slice_get}
use Rattle.anb_term.specs.Tree.{nodes}
use Rattle.anb_plays.specs.Fits.{Fits, Follows}
use Rattle.anb_code.specs.CodeValue.{CodeValue}
use Rattle.anb_code.specs.Meaning.{acts_of}
use Rattle.anb_code.specs.Taking.{take_texts}
use Rattle.anb_protocol.specs.Protocols.{ProtocolValue}
use Rattle.anb_protocol.specs.Texts.{known_texts}
use Rattle.anb_protocol.specs.Plans.{plan_of}
use Rattle.anb_protocol.specs.Plays.{events_of, meaning_of}
use Rattle.anb_compile.specs.Unsent.{labels_of}
use Rattle.anb_compile.specs.Counted.{count_demands, count_builds, count_subterms}

-- A code keeps the order of a role's plan, whatever it sends and checks: suite, formats and names are the
-- protocol's and the role's, the takes have the texts of what the role knows, and takes, nonces, arrivals
-- and sends are in order those of the plan.
pub record FollowsRole (p : ProtocolValue) (role : ℕ) (code : CodeValue) : Type 0 where
  pub suite : code.suite ≡ p.suite
  pub formats : code.formats ≡ p.formats
  pub protocol : code.protocol ≡ p.name
  pub name : slice_get p.roles role ≡ Some code.role
  pub texts : take_texts code.instrs ≡ known_texts p role
  pub order : Follows (acts_of code) (events_of p role)

-- Suite, formats and names are the protocol's and the role's, and the takes have the texts of what the
-- role knows. What the code does fits the role's plan over byte strings: it keeps the plan's order, each
-- send has its message's term, each demand is true in terms, and wherever something is sent or awaited,
-- and at the end, the demands before are enough.
pub record FitsRole (p : ProtocolValue) (role : ℕ) (code : CodeValue) : Type 0 where
  pub suite : code.suite ≡ p.suite
  pub formats : code.formats ≡ p.formats
  pub protocol : code.protocol ≡ p.name
  pub name : slice_get p.roles role ≡ Some code.role
  pub texts : take_texts code.instrs ≡ known_texts p role
  pub fits : Fits (meaning_of p) (acts_of code) (events_of p role)

-- One code for each role, in order. Each has at most as many demands as the terms of its labels have nodes, and builds
-- at most as often as the terms of its labels and messages have different subterms.
pub record FitRoles (p : ProtocolValue) (codes : List CodeValue) : Type 0 where
  pub count : length codes ≡ length p.roles
  pub each : (role : ℕ) (code : CodeValue) → slice_get codes role ≡ Some code → FitsRole p role code
  pub few : (role : ℕ) (code : CodeValue) → slice_get codes role ≡ Some code → count_demands code ≤ nodes (labels_of (plan_of p role))
  pub once : (role : ℕ) (code : CodeValue) → slice_get codes role ≡ Some code → count_builds code ≤ count_subterms (plan_of p role)
