use Rattle.std.proofs.Common.{◌≡◌, ◌≤◌, ◌+◌, drop}
use Rattle.std.specs.Prelude.{count_by}
use Rattle.anb_probe_commands.specs.Reports.{is_failed}
use Rattle.anb_probe_commands.proofs.counting.failed.Given as goal

abbrev pub invariant-loop-verdict : goal.invariant-loop-verdict
invariant-loop-verdict l = record {
  counted : l.count + count_by is_failed (drop l.verdict-index l.verdicts) ≡ count_by is_failed l.verdicts;
  most : l.count ≤ l.verdict-index;
}
