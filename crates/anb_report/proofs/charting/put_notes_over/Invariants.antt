use Rattle.std.proofs.Common.{◌≡◌, ◌++◌, drop}
use Rattle.std.specs.List.{flat_map}
use Rattle.anb_report.specs.RoleCharts.{note_over}
use Rattle.anb_report.proofs.charting.put_notes_over.Given as goal

abbrev pub invariant-loop-note : goal.invariant-loop-note
invariant-loop-note l = l.out.items ++ flat_map (note_over l.protocol l.role) (drop l.note-index l.notes) ≡ l.initial.out.items ++ flat_map (note_over l.protocol l.role) l.notes
