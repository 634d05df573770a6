use Rattle.std.proofs.Common.{arith}
use Rattle.anb_syntax.specs.Views.{narration_of}
use Rattle.anb_c.proofs.compiling.protocol_of.Goals as goal

pub resolve-requires-clause-countable : goal.resolve-requires-clause-countable
resolve-requires-clause-countable c = c.small_is_countable.ensures (narration_of c.in-Ok.narration) c.in-Ok.ensures.spellable (omega (arith, c.in-Ok.ensures.size, c.if-text.false))
