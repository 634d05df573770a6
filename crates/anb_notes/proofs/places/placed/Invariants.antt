use Rattle.std.proofs.Common.{◌≡◌, ◌++◌, drop, map}
use Rattle.anb_protocol.specs.Views.{action_value}
use Rattle.anb_notes.specs.Places.{placed}
use Rattle.anb_notes.proofs.places.placed.Given as goal

abbrev pub invariant-loop-i : goal.invariant-loop-i
invariant-loop-i l = l.out.items ++ placed l.standing l.i (map action_value (drop l.i l.actions)) ≡ placed l.standing 0 (map action_value l.actions)
