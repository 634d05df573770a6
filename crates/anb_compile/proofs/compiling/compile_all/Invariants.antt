use Rattle.std.proofs.Common.{◌≡◌, ℕ, ◌<◌, length, Some, None}
use Rattle.std.specs.Prelude.{slice_get}
use Rattle.anb_algebra.specs.ByteMeaning.{has_operator}
use Rattle.anb_code.specs.CodeValue.{CodeValue}
use Rattle.anb_plays.specs.Plans.{Sendable}
use Rattle.anb_protocol.specs.Plays.{events_of}
use Rattle.anb_compile.specs.Refusing.{IsSoonest}
use Rattle.anb_compile.proofs.Roles.{IsCode}
use Rattle.anb_compile.proofs.compiling.compile_all.Given as goal

abbrev pub invariant-loop-role : goal.invariant-loop-role
invariant-loop-role l = record {
  soonest : IsSoonest l.p l.role l.first;
  count : l.first ≡ None → length l.codes.items ≡ l.role;
  each : l.first ≡ None → (r : ℕ) (code : CodeValue) → slice_get l.codes.items r ≡ Some code → IsCode l.p r code;
  sendable : l.first ≡ None → (r : ℕ) → r < l.role → Sendable (has_operator l.p.formats) (events_of l.p r);
}
