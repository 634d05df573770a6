use Rattle.std.proofs.Common.{ℕ, List, false, ap, ◌∙◌, subst}
use Rattle.anb_base.specs.declared.place.Place.TheVariants.{Stdio}
use Rattle.anb_command.proofs.OverWire.{no_memory}
use Rattle.anb_command.specs.Writing.{IsWritten}
use Rattle.anb_command.proofs.Written.{completes_text}
use Rattle.anb_rehearse_commands.specs.DrillCommand.{DrillText, drill_text}
use Rattle.anb_rehearse_commands.proofs.Lined.{no_drill, writes_drill}
use Rattle.anb_rehearse_commands.proofs.drilling.drill.Goals as goal

pub returns-in-Ok-clause-does : goal.returns-in-Ok-clause-does
returns-in-Ok-clause-does g c =
    let old = (g.W.Wire.state c.args.wire.now).written in
    let new = (g.W.Wire.state c.write_text.new.wire).written in
    let text = c.deref.ensures.value ∙ c.in-Ok.ensures ∙ ap drill_text c.from.ensures in
    writes_drill c.args.n old new c.write_text.result (subst (λ (t : List ℕ). IsWritten t c.write_text.result old new) text c.write_text.ensures.writes)

pub returns-in-Ok-clause-completes : goal.returns-in-Ok-clause-completes
returns-in-Ok-clause-completes g c = λ only.
    completes_text (DrillText c.args.n) (g.W.Wire.state c.args.wire.now).written (g.W.Wire.state c.write_text.new.wire).written c.write_text.result (returns-in-Ok-clause-does g c).writes only

pub returns-in-Err-clause-does : goal.returns-in-Err-clause-does
returns-in-Err-clause-does g c = no_drill c.args.n (g.W.Wire.state c.args.wire.now).written

pub returns-in-Err-clause-completes : goal.returns-in-Err-clause-completes
returns-in-Err-clause-completes g c = λ only.
    completes_text (DrillText c.args.n) (g.W.Wire.state c.args.wire.now).written (g.W.Wire.state c.args.wire.now).written _ (returns-in-Err-clause-does g c).writes only

pub returns-in-Err-clause-wire : goal.returns-in-Err-clause-wire
returns-in-Err-clause-wire g c = no_memory Stdio false (g.W.Wire.state c.args.wire.now)
