use Rattle.std.proofs.Common.{◌≡◌, take}
use Rattle.std.specs.List.{flat_map}
use Rattle.anb_compile.specs.Emitting.{known_in}
use Rattle.anb_protocol.specs.Texts.{atoms_in_each}
use Rattle.anb_honest.proofs.beginning.known_atoms.Given as goal

abbrev pub invariant-loop-plan : goal.invariant-loop-plan
invariant-loop-plan l = l.atoms.items ≡ atoms_in_each (flat_map known_in (take l.plan-index l.plans))
