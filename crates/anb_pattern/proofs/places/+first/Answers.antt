-- What stands at the first places, one pattern more.
use Rattle.std.proofs.Common.{◌+◌, ◌++◌, length, map, drop, sym, ap, ◌∙◌, arith}
use Rattle.anb_term.specs.Tree.{trees_of}
use Rattle.anb_term.specs.View.{tree_of}
use Rattle.anb_term.proofs.Lists.{one_size}
use Rattle.anb_pattern.specs.Variables.{places, places_all, stand_for}
use Rattle.anb_pattern.proofs.Standing.{place_next, places_first}
use Rattle.anb_pattern.proofs.places.+first.Goals as goal

pub put_all_first-put_first-requires : goal.put_all_first-put_first-requires
put_all_first-put_first-requires t c =
    let one = one_size c.args.patterns.now c.loop-i.i c.index-patterns-i.result (omega arith) c.index-patterns-i.is in omega (arith, one, c.decreases)

pub put_all_first-loop-i-preserved : goal.put_all_first-loop-i-preserved
put_all_first-loop-i-preserved t c =
    let ps = c.args.patterns.now in
    let ts = c.args.narrated.now in
    let i = c.loop-i.i in
    let p = c.index-patterns-i.result in
    let q = c.index-narrated-i.result in
    let out = c.loop-i.out.items in
    let rest = places_all (trees_of (map tree_of (drop (i + 1) ps))) (trees_of (map tree_of (drop (i + 1) ts))) in
    let first = places_first ps ts i p q (omega arith) c.index-patterns-i.is (omega arith) c.index-narrated-i.is in
    place_next c.args.names out c.put_first.new.out.items (places (tree_of p) (tree_of q)) rest _ c.in_ok-put_first.ensures
    (ap (λ l. map tree_of out ++ stand_for (c.args.names + length out) l) (sym first) ∙ c.loop-i.invariant)
