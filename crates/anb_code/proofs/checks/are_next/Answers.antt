use Rattle.std.proofs.Common.{sym, ◌∙◌}
use Rattle.anb_code.proofs.Numbers.{next_one, not_next}
use Rattle.anb_code.proofs.checks.are_next.Goals as goal

pub returns-then-from-k : goal.returns-then-from-k
returns-then-from-k c =
    sym (not_next c.args.registers.now c.args.first c.loop-k.k c.loop-k-test.true (λ e. c.if-from-k.true (cc))) ∙ c.loop-k.invariant

pub loop-k-preserved : goal.loop-k-preserved
loop-k-preserved c = sym (next_one c.args.registers.now c.args.first c.loop-k.k c.loop-k-test.true (cc)) ∙ c.loop-k.invariant
