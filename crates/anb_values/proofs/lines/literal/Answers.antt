use Rattle.std.proofs.Common.{length, arith}
use Rattle.anb_values.proofs.LineLemmas.{literal_at, literal_ends}
use Rattle.anb_values.proofs.lines.literal.Goals as goal

pub returns-in_default-clause-none : goal.returns-in_default-clause-none
returns-in_default-clause-none c bytes h = (rw c.in_default.is at c.in_ok-literal.ensures.none) bytes (length c.args.text.now) (literal_at c.args.text.now bytes h)

pub returns-then-literal-text-clause-none : goal.returns-then-literal-text-clause-none
returns-then-literal-text-clause-none c bytes h = let e = literal_ends c.args.text.now c.in-Some.literal.bytes bytes c.in-Some.literal.end (rw c.in-Some.is at c.in_ok-literal.ensures.some) h in absurd (omega (arith, e, c.if-literal-text.true))
