-- Where a plan can't go on.
use Rattle.std.specs.Prelude.{◌≡◌, ℕ, List}
use Rattle.anb_term.specs.Tree.{Tree}
use Rattle.anb_term.specs.Agree.{HasRecipe}
use Rattle.anb_algebra.specs.ByteMeaning.{has_operator}
use Rattle.anb_protocol.specs.Protocols.{ProtocolValue}
use Rattle.anb_protocol.specs.Plans.{PlanEvent, to_send}

-- an event sends an action's message, and no recipe over the labels has it
abbrev pub IsStuck : ProtocolValue → List Tree → ℕ → PlanEvent → Type 0
IsStuck p frame action e = (t : Tree) × (e ≡ to_send action t) × (HasRecipe (has_operator p.formats) frame t → ⊥)
