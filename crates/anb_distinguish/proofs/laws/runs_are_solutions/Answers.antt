-- By the run over the values of registers, in both directions.
use Rattle.anb_distinguish.proofs.Solved.{runs_are_solutions}
use Rattle.anb_distinguish.proofs.laws.runs_are_solutions.Goals as goal

pub returns : goal.returns
returns c = runs_are_solutions
