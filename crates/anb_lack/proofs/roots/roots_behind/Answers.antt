use Rattle.std.proofs.Common.{length, arith, ap}
use Rattle.std.proofs.lemmas.List.{length-map}
use Rattle.anb_term.specs.View.{tree_of}
use Rattle.anb_term.proofs.Lists.{slice_get-at, slice_get-map}
use Rattle.anb_intern.proofs.Nodes.{operands_long}
use Rattle.anb_lack.specs.Rooted.{locked_values}
use Rattle.anb_lack.proofs.ComingOut.{operand_is}
use Rattle.anb_lack.proofs.Locking.{root_next}
use Rattle.anb_lack.proofs.roots.roots_behind.Goals as goal

pub bounds-wanted-i : goal.bounds-wanted-i
bounds-wanted-i c = omega (arith, operands_long c.args.pool.now c.args.wanted.now, ap length c.requires.wanted, length-map c.args.parts.now tree_of)

pub put_root-requires-clause-part : goal.put_root-requires-clause-part
put_root-requires-clause-part c =
    let ts = c.args.pool.now in
    let ids = c.args.wanted.now in
    let parts = c.args.parts.now in
    let i = c.loop-i.i in
    let x = c.index-parts-i.result in
    let here = slice_get-map tree_of parts i x (slice_get-at parts i x (omega arith) c.index-parts-i.is) in
    operand_is ts ids i _ (tree_of x) c.requires.under (omega (arith, operands_long ts ids, ap length c.requires.wanted, length-map parts tree_of)) (rw c.requires.wanted here)

pub loop-i-preserved : goal.loop-i-preserved
loop-i-preserved c =
    root_next (locked_values c.args.locks.now) c.args.parts.now c.loop-i.out.items c.put_root.new.out.items c.loop-i.i c.index-parts-i.result _ (omega arith) c.index-parts-i.is c.in_ok-put_root.ensures c.loop-i.invariant
