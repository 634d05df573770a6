use Rattle.std.proofs.Common.{length, ◌-◌, ◌≡◌, ◌≤◌, take}
use Rattle.anb_base.specs.Moves.{Took, Stamped, count_written}
use Rattle.anb_base.proofs.wire.read_full.Given as goal

abbrev pub invariant-loop-have : goal.invariant-loop-have
invariant-loop-have g l = record {
  within : l.have ≤ length l.buf;
  took : Took (g.S.Source.left l.fn.src) (g.S.Source.left l.src) (take l.have l.buf);
  stamped : Stamped (g.S.Source.taken_at l.fn.src) (g.S.Source.taken_at l.src) (count_written (g.S.Source.kept l.fn.src)) l.have;
  quiet : g.S.Source.faults l.src ≡ g.S.Source.faults l.fn.src;
  kept : g.S.Source.kept l.src ≡ g.S.Source.kept l.fn.src;
}

abbrev pub decreases-loop-have : goal.decreases-loop-have
decreases-loop-have g l = length l.initial.buf - l.have
