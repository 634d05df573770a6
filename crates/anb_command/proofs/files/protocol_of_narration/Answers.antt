use Rattle.std.proofs.Common.{arith}
use Rattle.anb_syntax.specs.Views.{narration_of}
use Rattle.anb_command.proofs.files.protocol_of_narration.Goals as goal

pub resolve-requires-clause-countable : goal.resolve-requires-clause-countable
resolve-requires-clause-countable c = c.small_is_countable.ensures (narration_of c.args.narration.now) c.requires.spellable (omega (arith, c.requires.small))
