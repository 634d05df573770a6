use Rattle.std.proofs.Common.{[], ◌∷◌, ◌++◌, length, arith, ap, ◌∙◌, length-append, get_or, List, false}
use Rattle.anb_stage.specs.Memory.{MemoryChild, absent}
use Rattle.anb_stage.proofs.Fresh.{fresh_next, fresh_unstarted, nothing_left}
use Rattle.anb_stage.proofs.memory.MemSpawner.new.Goals as goal

pub index-status-requires : goal.index-status-requires
index-status-requires c =
    let steps = c.in-Some.ensures.steps in
    omega (arith, ap length steps.0, c.loop-output.invariant.counts, c.len.ensures, c.requires.each)

pub loop-output-preserved : goal.loop-output-preserved
loop-output-preserved c =
    let steps = c.in-Some.ensures.steps in
    let pushed = c.in_ok-push.ensures.items ∙ ap (λ x. c.loop-output.children.items ++ x ∷ []) c.in_ok-new.ensures in
    record {
      children =
          fresh_next c.args.room c.len.result c.loop-output.children.items c.push.new.self.items _ c.in-Some.output c.loop-output.output-iterator.rest.items
          c.next.new.self.rest.items c.args.statuses.items c.index-status.result.now (omega (arith, c.len.ensures))
          (omega (arith, ap length steps.0, c.loop-output.invariant.counts, c.len.ensures, c.requires.each)) c.index-status.ensures steps.0 pushed c.loop-output.invariant.children;
      counts = omega (arith, ap length steps.0, ap length c.in_ok-push.ensures.items, length-append c.loop-output.children.items (c.in_ok-new.field-0 ∷ []), c.loop-output.invariant.counts);
      left = omega (arith, steps.1, ap length steps.0, c.loop-output.invariant.left);
    }

pub returns-clause-fresh : goal.returns-clause-fresh
returns-clause-fresh c =
    let steps = c.in-None.ensures.steps in
    let all = nothing_left c.args.room c.loop-output.children.items _ c.loop-output.output-iterator.rest.items _
    (omega (arith, steps.0, c.loop-output.invariant.left)) c.loop-output.invariant.children in
    ap (λ children. record { children = children; calls = 0; fails = c.args.fails.items; is_silence = false }) all

pub returns-clause-unstarted : goal.returns-clause-unstarted
returns-clause-unstarted c = λ role.
    let steps = c.in-None.ensures.steps in
    let all = nothing_left c.args.room c.loop-output.children.items _ c.loop-output.output-iterator.rest.items _
    (omega (arith, steps.0, c.loop-output.invariant.left)) c.loop-output.invariant.children in
    ap (λ (children : List MemoryChild). (get_or children role absent).phase) all ∙ fresh_unstarted c.args.room c.args.outputs.items c.args.statuses.items role
