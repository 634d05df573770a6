use Rattle.std.proofs.Common.{◌≡◌, ◌+◌, ◌*◌, map, drop, option_map}
use Rattle.anb_term.specs.View.{tree_of}
use Rattle.anb_term.specs.Tree.{tree_size, trees_size, trees_of}
use Rattle.anb_close.specs.Rows.{mades_for}
use Rattle.anb_close.specs.Entries.{rows}
use Rattle.anb_close.specs.Joined.{after}
use Rattle.anb_close.proofs.growth.Growth.+made.Given as goal

abbrev pub decreases-made : goal.decreases-made
decreases-made l = 2 * tree_size (tree_of l.t.now)

abbrev pub decreases-mades : goal.decreases-mades
decreases-mades l = 2 * trees_size (trees_of (map tree_of l.ts.now)) + 1

abbrev pub invariant-mades-loop-t : goal.invariant-mades-loop-t
invariant-mades-loop-t l =
    let rs = rows l.self.entries.items in
    mades_for rs (trees_of (map tree_of l.ts)) ≡ option_map (after l.all) (mades_for rs (trees_of (map tree_of (drop l.t-index l.ts))))
