use Rattle.std.proofs.Common.{List, map, take}
use Rattle.std.specs.Prelude.{filter}
use Rattle.anb_protocol.specs.Views.{action_value}
use Rattle.anb_notes.specs.declared.places.Place.{Place}
use Rattle.anb_notes.specs.Places.{is_from_other}
use Rattle.anb_notes.specs.Tables.{AreFirsts}
use Rattle.anb_notes.proofs.tables.others_firsts.Given as goal

abbrev pub invariant-loop-place : goal.invariant-loop-place
invariant-loop-place l = (all : List Place) → AreFirsts l.many all l.makers
    → AreFirsts l.many (filter (is_from_other (map action_value l.actions) all) (take l.place-index l.keys)) l.table.items
