use Rattle.std.proofs.Common.{◌≡◌, ◌++◌, drop, map}
use Rattle.anb_notes.specs.Places.{at}
use Rattle.anb_notes.proofs.places.put_all.Given as goal

abbrev pub invariant-loop-name : goal.invariant-loop-name
invariant-loop-name l = l.out.items ++ map (at l.number) (drop l.name-index l.names) ≡ l.initial.out.items ++ map (at l.number) l.names
