use Rattle.std.proofs.Common.{◌≡◌, ◌+◌, ◌≤◌, ℕ, List, length}
use Rattle.anb_base.specs.Moves.{count_written}
use Rattle.anb_frame.specs.Answers.{TookAt}
use Rattle.anb_host.proofs.frames.skip.Given as goal

abbrev pub invariant-loop-left : goal.invariant-loop-left
invariant-loop-left g l = record {
  taken : (z : List ℕ)
      × TookAt (g.S.Source.left l.fn.src) (g.S.Source.left l.src) (g.S.Source.taken_at l.fn.src) (g.S.Source.taken_at l.src) (count_written (g.S.Source.kept l.fn.src)) z
      × (length z + l.left ≡ l.fn.len);
  quiet : g.S.Source.faults l.src ≡ g.S.Source.faults l.fn.src;
  never_falls : g.S.Source.faults l.fn.src ≤ g.S.Source.faults l.src;
  kept : g.S.Source.kept l.src ≡ g.S.Source.kept l.fn.src;
}

abbrev pub decreases-loop-left : goal.decreases-loop-left
decreases-loop-left g l = l.left
