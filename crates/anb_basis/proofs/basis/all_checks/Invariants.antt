use Rattle.std.proofs.Common.{◌≡◌, map, take}
use Rattle.anb_term.specs.View.{tree_of}
use Rattle.anb_close.specs.Entries.{labels_of}
use Rattle.anb_basis.proofs.basis.all_checks.Given as goal

abbrev pub invariant-loop-t : goal.invariant-loop-t
invariant-loop-t l = labels_of l.basis.0 ≡ map tree_of (take l.t-index l.frame)
