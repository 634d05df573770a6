use Rattle.std.proofs.Common.{rules, ◌≡◌, ◌≤◌, ℕ, List, length, None, All}
use Rattle.anb_base.specs.declared.TheConstants.{ARRIVAL}
use Rattle.anb_probe_commands.specs.Probings.{begins, long_label}
use Rattle.anb_probe_commands.proofs.Reading.{long_early, long_failure, next_none}
use Rattle.anb_probe_commands.proofs.files.check_beginnings.Goals as goal

pub returns-in-Err-clause-refused : goal.returns-in-Err-clause-refused
returns-in-Err-clause-refused c =
    long_failure c.args.protocol.now c.args.values.now c.loop-role.role c.in-Err.status (search rules) c.loop-role.invariant.none c.in-Err.ensures.refused

pub returns-in-Err-clause-early : goal.returns-in-Err-clause-early
returns-in-Err-clause-early c = long_early _ c.in-Err.status c.in-Err.ensures.refused

pub loop-role-preserved : goal.loop-role-preserved
loop-role-preserved c = record {
  none = next_none (λ k. long_label c.args.protocol.now c.args.values.now k ≡ None) c.loop-role.role c.loop-role.invariant.none c.in-Ok.ensures.none;
  short = next_none (λ k. All (λ (value : List ℕ). length value ≤ ARRIVAL) (begins c.args.protocol.now c.args.values.now k)) c.loop-role.role c.loop-role.invariant.short c.in-Ok.ensures.short;
}
