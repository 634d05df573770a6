use Rattle.std.proofs.Common.{length}
use Rattle.anb_text.specs.Stages.{HasRead}
use Rattle.anb_text.proofs.loading.read_code.Given as goal

abbrev pub invariant-loop-line : goal.invariant-loop-line
invariant-loop-line l = HasRead l.text l.stage l.rest l.number

abbrev pub decreases-loop-line : goal.decreases-loop-line
decreases-loop-line l = length l.rest
