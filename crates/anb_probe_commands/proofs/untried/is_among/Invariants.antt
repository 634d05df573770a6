use Rattle.std.proofs.Common.{◌≡◌, drop}
use Rattle.anb_probe_commands.specs.Cases.{is_among}
use Rattle.anb_probe_commands.proofs.untried.is_among.Given as goal

abbrev pub invariant-loop-each : goal.invariant-loop-each
invariant-loop-each l = is_among l.line (drop l.each-index l.lines) ≡ is_among l.line l.lines
