use Rattle.std.proofs.Common.{◌≡◌, ℕ, length, Some}
use Rattle.std.specs.Prelude.{slice_get}
use Rattle.anb_notes.specs.Idle.{IsNotedOf}
use Rattle.anb_pattern.specs.Taken.{TakenValue}
use Rattle.anb_check_commands.proofs.verdict.taken_by_all.Given as goal

abbrev pub invariant-loop-role : goal.invariant-loop-role
invariant-loop-role l = record {
  count : length l.out.items ≡ l.role;
  each : (role : ℕ) (t : TakenValue) → slice_get l.out.items role ≡ Some t → IsNotedOf l.protocol role t;
}
