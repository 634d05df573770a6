use Rattle.std.proofs.Common.{◌≡◌, drop}
use Rattle.anb_protocol.specs.Checks.{overlaps}
use Rattle.anb_resolve.proofs.shapes.overlap_with.Given as goal

abbrev pub invariant-loop-other : goal.invariant-loop-other
invariant-loop-other l = overlaps (drop l.other-index l.before) l.format ≡ overlaps l.before l.format
