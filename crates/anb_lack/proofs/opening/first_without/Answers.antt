use Rattle.std.proofs.Common.{length, arith, sym, ap, ◌∙◌, Some, false, true}
use Rattle.anb_term.proofs.Lists.{slice_get-there}
use Rattle.anb_intern.specs.declared.node.NodeId.{NodeId}
use Rattle.anb_intern.proofs.Putting.{under_at}
use Rattle.anb_reason.specs.Decided.{composes}
use Rattle.anb_lack.proofs.ComingOut.{flag_is}
use Rattle.anb_lack.proofs.Locking.{key_here, key_later}
use Rattle.anb_lack.proofs.opening.first_without.Goals as goal

pub bounds-flags-id : goal.bounds-flags-id
bounds-flags-id c =
    let d : NodeId = record { 0 = 0 } in
    omega (arith, under_at (length c.args.pool.now) c.args.ids.now c.loop-id.id-index d c.requires.under (omega arith), c.requires.long)

pub returns-then-not-flags-id-clause-within : goal.returns-then-not-flags-id-clause-within
returns-then-not-flags-id-clause-within c =
    let d : NodeId = record { 0 = 0 } in
    under_at (length c.args.pool.now) c.args.ids.now c.loop-id.id-index d c.requires.under (omega arith)

pub returns-then-not-flags-id-clause-key : goal.returns-then-not-flags-id-clause-key
returns-then-not-flags-id-clause-key c S t flags at =
    let d : NodeId = record { 0 = 0 } in
    let ts = c.args.pool.now in
    let ids = c.args.ids.now in
    let i = c.loop-id.id-index in
    let there = slice_get-there ts _ (under_at (length ts) ids i d c.requires.under (omega arith)) in
    let off = flag_is (composes S) ts c.args.flags.now _ there.0 _ false flags there.1 c.if-not-flags-id.true in
    there.1 ∙ ap Some (sym (c.loop-id.invariant S t flags ∙ key_here S ts ids i d t there.0 (omega arith) there.1 off))

pub loop-id-preserved : goal.loop-id-preserved
loop-id-preserved c S t flags =
    let d : NodeId = record { 0 = 0 } in
    let ts = c.args.pool.now in
    let ids = c.args.ids.now in
    let i = c.loop-id.id-index in
    let there = slice_get-there ts _ (under_at (length ts) ids i d c.requires.under (omega arith)) in
    let on = flag_is (composes S) ts c.args.flags.now _ there.0 _ true flags there.1 c.if-not-flags-id.false in
    c.loop-id.invariant S t flags ∙ key_later S ts ids i d t there.0 (omega arith) there.1 on
