use Rattle.std.proofs.Common.{◌≡◌, drop, Some}
use Rattle.std.specs.Prelude.{slice_get}
use Rattle.anb_term.specs.Tree.{Tree}
use Rattle.anb_lack.specs.Rooted.{locked_values}
use Rattle.anb_lack.specs.Roots.{lock_around}
use Rattle.anb_lack.proofs.roots.lock_around.Given as goal

abbrev pub invariant-loop-locked : goal.invariant-loop-locked
invariant-loop-locked l = (u : Tree) → slice_get l.pool l.id.0 ≡ Some u → lock_around (locked_values l.locks) u ≡ lock_around (locked_values (drop l.locked-index l.locks)) u
