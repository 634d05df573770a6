use Rattle.std.proofs.Common.{◌≡◌, ◌≤◌, ◌<◌, ℕ, List, length, None, All}
use Rattle.anb_base.specs.declared.TheConstants.{ARRIVAL}
use Rattle.anb_probe_commands.specs.Probings.{begins, long_label}
use Rattle.anb_probe_commands.proofs.files.check_beginnings.Given as goal

abbrev pub invariant-loop-role : goal.invariant-loop-role
invariant-loop-role l = record {
  none : (other : ℕ) → other < l.role → long_label l.protocol l.values other ≡ None;
  short : (other : ℕ) → other < l.role → All (λ (value : List ℕ). length value ≤ ARRIVAL) (begins l.protocol l.values other);
}
