use Rattle.std.proofs.Common.{◌≡◌, ◌++◌, map, take}
use Rattle.anb_compile.specs.Emitting.{known_in}
use Rattle.anb_protocol.specs.Texts.{atoms_in_each}
use Rattle.anb_protocol.specs.Views.{plan_event}
use Rattle.anb_honest.proofs.beginning.put_known_atoms.Given as goal

abbrev pub invariant-loop-event : goal.invariant-loop-event
invariant-loop-event l = l.atoms.items ≡ l.initial.atoms.items ++ atoms_in_each (known_in (map plan_event (take l.event-index l.event-items)))
