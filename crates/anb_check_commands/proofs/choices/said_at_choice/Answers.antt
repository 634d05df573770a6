use Rattle.std.proofs.Common.{arith}
use Rattle.anb_read.proofs.Standing.{refusal_within}
use Rattle.anb_check_commands.proofs.choices.said_at_choice.Goals as goal

pub pointed-requires-clause-within : goal.pointed-requires-clause-within
pointed-requires-clause-within c = omega (arith, c.offset-at.ensures, refusal_within c.args.text.now c.args.why c.requires.refused)
