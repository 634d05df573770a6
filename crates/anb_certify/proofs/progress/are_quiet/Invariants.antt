use Rattle.std.proofs.Common.{◌≡◌, ◌<◌, ℕ, Some, false}
use Rattle.std.specs.Prelude.{slice_get}
use Rattle.anb_intern.specs.Nodes.{operands_at}
use Rattle.anb_term.specs.Tree.{Tree}
use Rattle.anb_certify.specs.Progress.{wanted_test}
use Rattle.anb_certify.proofs.progress.are_quiet.Given as goal

abbrev pub invariant-loop-r : goal.invariant-loop-r
invariant-loop-r l = (k f : ℕ) (t : Tree) → k < l.r-index → slice_get l.pending k ≡ Some f → slice_get (operands_at l.pool l.ids) f ≡ Some t → wanted_test (operands_at l.pool l.ids) t ≡ false
