use Rattle.std.proofs.Common.{◌≡◌, map, take}
use Rattle.anb_suite.specs.Reading.{read_for}
use Rattle.anb_suite.proofs.reading.read_all.Given as goal

abbrev pub invariant-loop-register : goal.invariant-loop-register
invariant-loop-register l = l.all.items ≡ map (read_for l.gone l.used) (take l.register-index l.registers)
