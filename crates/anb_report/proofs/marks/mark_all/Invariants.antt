use Rattle.std.proofs.Common.{◌≡◌, drop}
use Rattle.anb_protocol.specs.Seen.{marked}
use Rattle.anb_report.proofs.marks.mark_all.Given as goal

abbrev pub invariant-loop-n : goal.invariant-loop-n
invariant-loop-n l = marked l.marks.items (drop l.n-index l.numbers) ≡ marked l.initial.marks.items l.numbers
