use Rattle.std.proofs.Common.{◌≡◌, take}
use Rattle.std.specs.List.{flat_map}
use Rattle.anb_protocol.specs.Checks.{agent_names}
use Rattle.anb_protocol.specs.Protocols.{ProtocolValue}
use Rattle.anb_values_commands.specs.ValuesCommand.{values_from}
use Rattle.anb_values_commands.proofs.drawing.drawn_values.Given as goal

abbrev pub invariant-loop-i : goal.invariant-loop-i
invariant-loop-i l = (p : ProtocolValue) → l.agents ≡ flat_map agent_names p.atoms
    → l.values.items ≡ values_from p l.seed 0 (take l.i l.names)
