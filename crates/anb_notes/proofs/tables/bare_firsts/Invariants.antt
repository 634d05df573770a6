use Rattle.std.proofs.Common.{List, take}
use Rattle.std.specs.Prelude.{filter}
use Rattle.anb_notes.specs.declared.places.Place.{Place}
use Rattle.anb_notes.specs.Places.{is_bare}
use Rattle.anb_notes.specs.Tables.{AreFirsts}
use Rattle.anb_notes.proofs.tables.bare_firsts.Given as goal

abbrev pub invariant-loop-place : goal.invariant-loop-place
invariant-loop-place l = (all : List Place) → AreFirsts l.many all l.clear → AreFirsts l.many (filter (is_bare all) (take l.place-index l.keys)) l.table.items
