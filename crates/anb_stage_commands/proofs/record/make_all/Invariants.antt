use Rattle.anb_stage_commands.specs.Telling.{AreMade}
use Rattle.anb_stage_commands.proofs.record.make_all.Given as goal

abbrev pub invariant-loop-place : goal.invariant-loop-place
invariant-loop-place g l = AreMade l.files l.place (g.J.Store.state l.fn.journal) (g.J.Store.state l.journal)
