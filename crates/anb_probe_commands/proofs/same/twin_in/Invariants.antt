use Rattle.std.proofs.Common.{◌≡◌, ◌-◌}
use Rattle.anb_probe_commands.specs.Reports.{twin_in}
use Rattle.anb_probe_commands.proofs.same.twin_in.Given as goal

abbrev pub invariant-loop-name : goal.invariant-loop-name
invariant-loop-name l = twin_in l.apart l.value l.values l.name (l.all - l.name) ≡ twin_in l.apart l.value l.values 0 l.all
