use Rattle.std.proofs.Common.{◌≡◌, ◌+◌, ap, ◌∙◌, arith}
use Rattle.anb_gen.proofs.Growing.{turns_before, turns_more, turns_end}
use Rattle.anb_gen.proofs.turns.drill_turns.Goals as goal
use Rattle.anb_gen.proofs.turns.drill_turns.Goals.{else-loop-i-test, then-loop-i-test+in_ok-extend_from_slice+else-i-n}

pub loop-i-preserved : goal.loop-i-preserved
loop-i-preserved c = turns_more c.loop-i.i _ _ _ (omega arith) c.loop-i.invariant c.exchange_turns.ensures c.in_ok-extend_from_slice.ensures.items

pub returns : goal.returns
returns c =
    let before : c.loop-i-test.turns.items ≡ turns_before (c.args.n + 1) = elim c.loop-i-test.branch [
      | else-loop-i-test w ↦ absurd (omega arith)
      | then-loop-i-test+in_ok-extend_from_slice+else-i-n w ↦
          let last : c.loop-i.i ≡ c.args.n = omega arith in
          ap (λ v. v.items) w.turns-is ∙ turns_more c.loop-i.i _ _ _ (omega arith) c.loop-i.invariant w.exchange_turns.ensures w.in_ok-extend_from_slice.ensures.items ∙ ap (λ i. turns_before (i + 1)) last
    ] in
    turns_end c.args.n _ _ before c.in_ok-extend_from_slice-2.ensures.items
