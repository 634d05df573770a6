use Rattle.std.proofs.Common.{false}
use Rattle.anb_base.specs.declared.place.Place.TheVariants.{Stdio}
use Rattle.anb_choice.specs.Views.{branched_of}
use Rattle.anb_chart_commands.specs.ChoiceCharts.{choice_chart}
use Rattle.anb_command.proofs.OverWire.{no_memory}
use Rattle.anb_chart_commands.proofs.Charted.{writes_none, writes_one}
use Rattle.anb_chart_commands.proofs.write_branched.Goals as goal

pub returns-in-Ok-clause-writes : goal.returns-in-Ok-clause-writes
returns-in-Ok-clause-writes g c =
    writes_one (choice_chart (branched_of c.args.b.now)) (g.W.Wire.state c.args.wire.now).written _ c.write_text.result
    (rw (c.deref.ensures.value, c.in-Ok.ensures) at c.write_text.ensures.writes)

pub returns-in-Err-clause-writes : goal.returns-in-Err-clause-writes
returns-in-Err-clause-writes g c = writes_none (choice_chart (branched_of c.args.b.now)) (g.W.Wire.state c.args.wire.now).written

pub returns-in-Err-clause-wire : goal.returns-in-Err-clause-wire
returns-in-Err-clause-wire g c = no_memory Stdio false (g.W.Wire.state c.args.wire.now)
