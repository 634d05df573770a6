use Rattle.std.proofs.Common.{◌≡◌, map, take}
use Rattle.anb_term.specs.Tree.{Tree}
use Rattle.anb_term.specs.View.{tree_of}
use Rattle.anb_unify.specs.Reading.{Settles}
use Rattle.anb_unify.specs.Solving.{read_at}
use Rattle.anb_unify.proofs.solving.read_each.Given as goal

abbrev pub invariant-loop-i : goal.invariant-loop-i
invariant-loop-i l = (rep : Tree → Tree) → Settles l.names l.pool l.roots rep → map tree_of l.out.items ≡ map (read_at rep l.names (map tree_of l.narrated)) (take l.i l.at)
