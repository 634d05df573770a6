-- The senders and receivers of a protocol's actions are roles of it.
use Rattle.std.proofs.Common.{List, [], ◌∷◌, length, map}
use Rattle.std.specs.List.{AllByRecursion}
use Rattle.anb_protocol.specs.Protocols.{ActionValue, ProtocolValue}
use Rattle.anb_protocol.specs.Laws.{IsActionOf}
use Rattle.anb_stage.specs.Relays.{ends_of}
use Rattle.anb_stage.specs.Steps.{AreWithin}

pub ends_within : (p : ProtocolValue) (actions : List ActionValue) → AllByRecursion (IsActionOf p) actions → AreWithin (length p.roles) (map ends_of actions)
ends_within p [] all = tt
ends_within p (a ∷ actions) all = ((all.0.from, all.0.to), ends_within p actions all.1)
