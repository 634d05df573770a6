use Rattle.std.proofs.Common.{◌≡◌, map, take}
use Rattle.anb_protocol.specs.Views.{action_value}
use Rattle.anb_stage.specs.Relays.{ends_of}
use Rattle.anb_stage.proofs.ends.ends_of_all.Given as goal

abbrev pub invariant-loop-action : goal.invariant-loop-action
invariant-loop-action l = l.all.items ≡ map ends_of (map action_value (take l.action-index l.actions))
