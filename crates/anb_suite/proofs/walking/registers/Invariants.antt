use Rattle.std.proofs.Common.{◌≡◌, ◌+◌, map, take}
use Rattle.anb_term.specs.Tree.{leaf}
use Rattle.anb_term.specs.View.{tree_of}
use Rattle.anb_suite.proofs.walking.registers.Given as goal

abbrev pub invariant-loop-register : goal.invariant-loop-register
invariant-loop-register l = map tree_of l.terms.items ≡ map (λ r. leaf (l.names + r)) (take l.register-index l.at)
