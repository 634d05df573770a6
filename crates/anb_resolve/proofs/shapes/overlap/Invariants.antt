use Rattle.std.proofs.Common.{◌≡◌, [], take, drop}
use Rattle.anb_protocol.specs.Choices.{first_after}
use Rattle.anb_protocol.specs.Checks.{overlaps}
use Rattle.anb_resolve.proofs.shapes.overlap.Given as goal

abbrev pub invariant-loop-i : goal.invariant-loop-i
invariant-loop-i l = first_after overlaps (take l.i l.formats) (drop l.i l.formats) ≡ first_after overlaps [] l.formats
