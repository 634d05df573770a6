use Rattle.std.proofs.Common.{length, arith, sym, ◌∙◌}
use Rattle.anb_term.proofs.Lists.{slice_get-there}
use Rattle.anb_intern.specs.declared.node.NodeId.{NodeId}
use Rattle.anb_intern.proofs.Putting.{under_at}
use Rattle.anb_lack.proofs.Locking.{inside_here, inside_later}
use Rattle.anb_lack.proofs.roots.is_inside.Goals as goal

pub returns-then-each-id : goal.returns-then-each-id
returns-then-each-id c u here =
    let d : NodeId = record { 0 = 0 } in
    let ts = c.args.pool.now in
    let ids = c.args.ids.now in
    let i = c.loop-each.each-index in
    let there = slice_get-there ts _ (under_at (length ts) ids i d c.requires (omega arith)) in
    sym (c.loop-each.invariant u here ∙ inside_here ts c.len.ensures.distinct ids i d c.args.id u there.0 (omega arith) there.1 here (omega (arith, c.if-each-id.true)))

pub loop-each-preserved : goal.loop-each-preserved
loop-each-preserved c u here =
    let d : NodeId = record { 0 = 0 } in
    let ts = c.args.pool.now in
    let ids = c.args.ids.now in
    let i = c.loop-each.each-index in
    let there = slice_get-there ts _ (under_at (length ts) ids i d c.requires (omega arith)) in
    c.loop-each.invariant u here ∙ inside_later ts c.len.ensures.distinct ids i d c.args.id u there.0 (omega arith) there.1 here (λ same. absurd (omega (arith, same, c.if-each-id.false)))
