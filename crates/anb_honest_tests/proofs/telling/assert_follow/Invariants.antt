use Rattle.std.proofs.Common.{◌≡◌, ◌<◌, ℕ, Some}
use Rattle.std.specs.Prelude.{slice_get}
use Rattle.anb_code.specs.CodeValue.{CodeValue}
use Rattle.anb_compile.specs.Fitting.{FollowsRole}
use Rattle.anb_honest_tests.proofs.telling.assert_follow.Given as goal

abbrev pub invariant-loop-role : goal.invariant-loop-role
invariant-loop-role g l = (role : ℕ) (code : CodeValue) → role < l.role → slice_get l.codes role ≡ Some code → FollowsRole l.fn.p role code
