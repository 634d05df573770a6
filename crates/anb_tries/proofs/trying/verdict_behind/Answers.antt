use Rattle.anb_tries.proofs.Short.{lines_short}
use Rattle.anb_tries.proofs.trying.verdict_behind.Goals as goal

pub judge_case-requires-clause-lines : goal.judge_case-requires-clause-lines
judge_case-requires-clause-lines c = lines_short c.args.lines.now c.requires.lines
