-- When codes keep the order of all roles' plans, whatever they send and check.
use Rattle.std.specs.Prelude.{◌≡◌, ℕ, List, length, Some, slice_get}
use Rattle.anb_code.specs.CodeValue.{CodeValue}
use Rattle.anb_protocol.specs.Protocols.{ProtocolValue}
use Rattle.anb_compile.specs.Fitting.{FollowsRole}

-- one code for each role, in order
pub record FollowRoles (p : ProtocolValue) (codes : List CodeValue) : Type 0 where
  pub count : length codes ≡ length p.roles
  pub each : (role : ℕ) (code : CodeValue) → slice_get codes role ≡ Some code → FollowsRole p role code
