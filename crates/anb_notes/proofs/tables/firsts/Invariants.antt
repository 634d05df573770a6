use Rattle.std.proofs.Common.{take}
use Rattle.anb_notes.specs.Tables.{AreFirsts}
use Rattle.anb_notes.proofs.tables.firsts.Given as goal

abbrev pub invariant-loop-place : goal.invariant-loop-place
invariant-loop-place l = AreFirsts l.many (take l.place-index l.all) l.table.items
