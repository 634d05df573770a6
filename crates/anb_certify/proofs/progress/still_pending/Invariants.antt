use Rattle.std.proofs.Common.{◌≡◌, ◌<◌, ℕ, Some, length}
use Rattle.std.specs.Prelude.{slice_get}
use Rattle.anb_intern.specs.Nodes.{operands_at}
use Rattle.anb_certify.specs.Numbered.{AreBelow}
use Rattle.anb_certify.specs.Progress.{IsCovered}
use Rattle.anb_certify.proofs.progress.still_pending.Given as goal

abbrev pub invariant-loop-r : goal.invariant-loop-r
invariant-loop-r l = record {
  below : AreBelow (length l.ids) l.left.items;
  covered : (k f : ℕ) → k < l.r-index → slice_get l.pending k ≡ Some f → IsCovered (operands_at l.pool l.ids) l.known l.left.items f;
}
