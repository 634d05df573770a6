use Rattle.anb_command.proofs.Written.{completes_text}
use Rattle.anb_text_commands.specs.TextCommands.{PageText}
use Rattle.anb_text_commands.specs.Pages.{text_of}
use Rattle.anb_text_commands.proofs.Written.{writes_text}
use Rattle.anb_text_commands.proofs.page.Goals as goal

pub returns-clause-does : goal.returns-clause-does
returns-clause-does g c =
    writes_text (text_of c.args.about) (g.W.Wire.state c.args.wire.now).written (g.W.Wire.state c.write_text.new.wire).written c.write_text.result
    (rw (c.as_bytes.ensures.value, c.text_of.ensures) at c.write_text.ensures.writes)

pub returns-clause-completes : goal.returns-clause-completes
returns-clause-completes g c = λ only.
    completes_text (PageText c.args.about) (g.W.Wire.state c.args.wire.now).written (g.W.Wire.state c.write_text.new.wire).written c.write_text.result (returns-clause-does g c).writes only
