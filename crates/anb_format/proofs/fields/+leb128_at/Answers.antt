use Rattle.std.proofs.Common.{◌/◌, ◌<◌, ap, length, arith, ◌∙◌}
use Rattle.anb_format.proofs.Leb128.{fewer, first_of, in_64_bits, leb128_nonempty, one_byte, only_byte, several, with_first}
use Rattle.anb_format.proofs.fields.+leb128_at.Goals as goal

pub returns-in_err-first-clause-again : goal.returns-in_err-first-clause-again
returns-in_err-first-clause-again t c = λ n rest fits e. absurd (omega (arith, leb128_nonempty n rest, ap length e, c.in_err-first.ensures.cases))

pub returns-then-first-lt128-clause-bound : goal.returns-then-first-lt128-clause-bound
returns-then-first-lt128-clause-bound t c = one_byte c.args.more _ (omega arith)

pub returns-then-first-lt128-clause-again : goal.returns-then-first-lt128-clause-again
returns-then-first-lt128-clause-again t c = λ n rest fits e.
    let parts = only_byte n c.in_ok-first.first.now rest c.args.bytes.now c.in_ok-first.rest.now e c.in_ok-first.ensures.cases.0 (omega arith) in
    (c.from.ensures ∙ parts.0, parts.1)

pub returns-then-more-eq0-clause-again : goal.returns-then-more-eq0-clause-again
returns-then-more-eq0-clause-again t c = λ n rest fits e.
    let parts = first_of n c.in_ok-first.first.now rest c.args.bytes.now c.in_ok-first.rest.now e c.in_ok-first.ensures.cases.0 (omega arith) in
    omega (arith, several c.args.more n parts.0 fits)

pub returns-in_err-high-clause-again : goal.returns-in_err-high-clause-again
returns-in_err-high-clause-again t c = λ n rest fits e.
    let parts = first_of n c.in_ok-first.first.now rest c.args.bytes.now c.in_ok-first.rest.now e c.in_ok-first.ensures.cases.0 (omega arith) in
    absurd (c.in_err-high.ensures.again (n / 128) rest (fewer c.args.more n (several c.args.more n parts.0 fits) fits) parts.2)

pub overflow_mul-result : goal.overflow_mul-result
overflow_mul-result t c =
    let positive : 0 < c.args.more = omega arith in
    omega (arith, with_first c.args.more c.in_ok-high.high 0 positive c.in_ok-high.ensures.bound (omega arith), in_64_bits c.args.more c.requires)

pub overflow_add-result : goal.overflow_add-result
overflow_add-result t c =
    let positive : 0 < c.args.more = omega arith in
    omega (arith, with_first c.args.more c.in_ok-high.high c.from-2.result positive c.in_ok-high.ensures.bound (omega arith), in_64_bits c.args.more c.requires)

pub returns-clause-bound : goal.returns-clause-bound
returns-clause-bound t c =
    let positive : 0 < c.args.more = omega arith in
    with_first c.args.more c.in_ok-high.high c.from-2.result positive c.in_ok-high.ensures.bound (omega arith)

pub returns-clause-again : goal.returns-clause-again
returns-clause-again t c = λ n rest fits e.
    let parts = first_of n c.in_ok-first.first.now rest c.args.bytes.now c.in_ok-first.rest.now e c.in_ok-first.ensures.cases.0 (omega arith) in
    let high = c.in_ok-high.ensures.again (n / 128) rest (fewer c.args.more n (several c.args.more n parts.0 fits) fits) parts.2 in
    (omega (arith, high.0, parts.1, parts.0), high.1)
