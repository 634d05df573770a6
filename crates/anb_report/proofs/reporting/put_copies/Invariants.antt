use Rattle.std.proofs.Common.{◌≡◌, ◌++◌, drop}
use Rattle.anb_report.proofs.reporting.put_copies.Given as goal

abbrev pub invariant-loop-note : goal.invariant-loop-note
invariant-loop-note l = l.out.items ++ drop l.note-index l.notes ≡ l.initial.out.items ++ l.notes
