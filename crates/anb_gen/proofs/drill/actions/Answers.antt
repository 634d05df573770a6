use Rattle.std.proofs.Common.{◌≡◌, ◌+◌, map, ap, ◌∙◌, arith}
use Rattle.anb_syntax.specs.Views.{action_of}
use Rattle.anb_gen.proofs.Growing.{before_exchange, action_more, actions_end}
use Rattle.anb_gen.proofs.drill.actions.Goals as goal
use Rattle.anb_gen.proofs.drill.actions.Goals.{else-loop-i-test, then-loop-i-test+in_ok-exchange+in_ok-push+else-i-n}

pub loop-i-preserved : goal.loop-i-preserved
loop-i-preserved c = action_more action_of c.loop-i.i _ _ c.in_ok-exchange.field-0 (omega arith) c.loop-i.invariant c.in_ok-exchange.ensures c.in_ok-push.ensures.items

pub returns : goal.returns
returns c =
    let before : map action_of c.loop-i-test.actions.items ≡ before_exchange (c.args.n + 1) = elim c.loop-i-test.branch [
      | else-loop-i-test w ↦ absurd (omega arith)
      | then-loop-i-test+in_ok-exchange+in_ok-push+else-i-n w ↦
          let last : c.loop-i.i ≡ c.args.n = omega arith in
          ap (λ v. map action_of v.items) w.actions-is
          ∙ action_more action_of c.loop-i.i _ _ w.in_ok-exchange.field-0 (omega arith) c.loop-i.invariant w.in_ok-exchange.ensures w.in_ok-push.ensures.items
          ∙ ap (λ i. before_exchange (i + 1)) last
    ] in
    actions_end action_of c.args.n _ _ c.in_ok-closing.field-0 before c.in_ok-closing.ensures c.in_ok-push-2.ensures.items
