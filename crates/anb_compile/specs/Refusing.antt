-- The first action of all roles that can't be sent, role by role.
use Rattle.std.specs.Prelude.{ℕ, ◌+◌, ◌<◌, Option, Some, None}
use Rattle.anb_protocol.specs.Protocols.{ProtocolValue}
use Rattle.anb_compile.specs.declared.compiling.Unsent.{Unsent}
use Rattle.anb_compile.specs.Unsent.{IsUnsent, IsFirstUnsent}

-- among the first n roles
abbrev pub IsSoonest : ProtocolValue → ℕ → Option Unsent → Type 0
IsSoonest p n None = (role action : ℕ) → role < n → IsUnsent p role action → ⊥
IsSoonest p n (Some u) = (u.role < n) × IsUnsent p u.role u.action × ((role action : ℕ) → role < n → action < u.action → IsUnsent p role action → ⊥)

-- one role more, whose first one is `next`
abbrev pub IsSooner : Option Unsent → Unsent → Unsent → Type 0
IsSooner first next u = (p : ProtocolValue) → IsSoonest p next.role first → IsFirstUnsent p next.role next.action → IsSoonest p (next.role + 1) (Some u)
