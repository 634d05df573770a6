use Rattle.std.proofs.Common.{length}
use Rattle.anb_format.specs.Formats.{head}
use Rattle.anb_format.proofs.ApartLemmas.{BeginAlike}
use Rattle.anb_format.proofs.formats.apart.Given as goal

abbrev pub invariant-loop-a : goal.invariant-loop-a
invariant-loop-a l = BeginAlike (head l.f.pieces) (head l.g.pieces) l.ours l.theirs

abbrev pub decreases-loop-a : goal.decreases-loop-a
decreases-loop-a l = length l.ours
