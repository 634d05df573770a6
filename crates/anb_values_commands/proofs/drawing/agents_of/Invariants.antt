use Rattle.std.proofs.Common.{◌≡◌, take}
use Rattle.std.specs.List.{flat_map}
use Rattle.anb_protocol.specs.Checks.{agent_names}
use Rattle.anb_values_commands.proofs.drawing.agents_of.Given as goal

abbrev pub invariant-loop-atom : goal.invariant-loop-atom
invariant-loop-atom l = l.agents ≡ flat_map agent_names (take l.atom-index l.atoms)
