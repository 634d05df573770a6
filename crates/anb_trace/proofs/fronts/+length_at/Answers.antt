use Rattle.std.proofs.Common.{◌<◌, ◌-◌, ℕ, Some, ap, arith, sym, ◌∙◌}
use Rattle.anb_format.proofs.Leb128.{in_64_bits, one_byte, with_first}
use Rattle.anb_trace.proofs.Lengths.{empty_none, if_none, last_byte, longer_none, longer_some, longer_zero, no_more, one_more}
use Rattle.anb_trace.proofs.fronts.+length_at.Goals as goal

pub returns-in_err-first-clause-none : goal.returns-in_err-first-clause-none
returns-in_err-first-clause-none t c = if_none c.from_residual.result (empty_none c.args.more c.args.bytes.now (omega (arith, c.in_err-first.ensures.cases)))

pub returns-then-first-lt128-clause-bound : goal.returns-then-first-lt128-clause-bound
returns-then-first-lt128-clause-bound t c = one_byte c.args.more _ (omega arith)

pub returns-then-first-lt128-clause-some : goal.returns-then-first-lt128-clause-some
returns-then-first-lt128-clause-some t c =
    last_byte c.args.more c.in_ok-first.first.now c.args.bytes.now c.in_ok-first.rest.now c.in_ok-first.ensures.cases.0 (omega arith)
    ∙ ap (λ (n : ℕ). Some (n, c.in_ok-first.rest.now)) (sym c.from.ensures)

pub returns-then-more-eq0-clause-none : goal.returns-then-more-eq0-clause-none
returns-then-more-eq0-clause-none t c =
    no_more c.args.more c.in_ok-first.first.now c.args.bytes.now c.in_ok-first.rest.now c.in_ok-first.ensures.cases.0 (omega arith) (omega arith)

pub returns-in_err-high-clause-none : goal.returns-in_err-high-clause-none
returns-in_err-high-clause-none t c = if_none c.from_residual-in_err-high.result
    (one_more c.args.more c.in_ok-first.first.now c.args.bytes.now c.in_ok-first.rest.now c.in_ok-first.ensures.cases.0 (omega arith) (omega arith)
    ∙ longer_none (c.in_ok-first.first.now - 128) _ c.in_err-high.ensures.none)

pub returns-then-high-eq0-clause-none : goal.returns-then-high-eq0-clause-none
returns-then-high-eq0-clause-none t c =
    one_more c.args.more c.in_ok-first.first.now c.args.bytes.now c.in_ok-first.rest.now c.in_ok-first.ensures.cases.0 (omega arith) (omega arith)
    ∙ longer_zero (c.in_ok-first.first.now - 128) c.in_ok-high.high c.in_ok-high.rest.now _ c.in_ok-high.ensures.some (omega arith)

pub overflow_mul-result : goal.overflow_mul-result
overflow_mul-result t c =
    let positive : 0 < c.args.more = omega arith in
    omega (arith, with_first c.args.more c.in_ok-high.high 0 positive c.in_ok-high.ensures.bound (omega arith), in_64_bits c.args.more c.requires)

pub overflow_add-result : goal.overflow_add-result
overflow_add-result t c =
    let positive : 0 < c.args.more = omega arith in
    omega (arith, with_first c.args.more c.in_ok-high.high c.from-2.result positive c.in_ok-high.ensures.bound (omega arith), in_64_bits c.args.more c.requires)

pub returns-clause-bound : goal.returns-clause-bound
returns-clause-bound t c =
    let positive : 0 < c.args.more = omega arith in
    with_first c.args.more c.in_ok-high.high c.from-2.result positive c.in_ok-high.ensures.bound (omega arith)

pub returns-clause-some : goal.returns-clause-some
returns-clause-some t c =
    one_more c.args.more c.in_ok-first.first.now c.args.bytes.now c.in_ok-first.rest.now c.in_ok-first.ensures.cases.0 (omega arith) (omega arith)
    ∙ longer_some (c.in_ok-first.first.now - 128) c.in_ok-high.high _ c.in_ok-high.rest.now _ c.in_ok-high.ensures.some (omega arith) (omega (arith, c.from-2.ensures))
