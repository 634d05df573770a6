use Rattle.anb_command.proofs.Written.{completes_text}
use Rattle.anb_text_commands.specs.TextCommands.{HelpText}
use Rattle.anb_text_commands.proofs.Written.{writes_help}
use Rattle.anb_text_commands.proofs.help.Goals as goal

pub returns-clause-does : goal.returns-clause-does
returns-clause-does g c =
    writes_help (g.W.Wire.state c.args.wire.now).written (g.W.Wire.state c.write_text.new.wire).written c.write_text.result (rw c.as_bytes.ensures.value at c.write_text.ensures.writes)

pub returns-clause-completes : goal.returns-clause-completes
returns-clause-completes g c = λ only.
    completes_text HelpText (g.W.Wire.state c.args.wire.now).written (g.W.Wire.state c.write_text.new.wire).written c.write_text.result (returns-clause-does g c).writes only
