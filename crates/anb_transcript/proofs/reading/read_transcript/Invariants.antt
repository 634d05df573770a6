use Rattle.std.proofs.Common.{length}
use Rattle.anb_transcript.proofs.ReadLines.{IsReadTo}
use Rattle.anb_transcript.proofs.reading.read_transcript.Given as goal

abbrev pub invariant-loop-line : goal.invariant-loop-line
invariant-loop-line l = IsReadTo l.fn.text l.rest l.lines.items

abbrev pub decreases-loop-line : goal.decreases-loop-line
decreases-loop-line l = length l.rest
