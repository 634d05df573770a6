use Rattle.std.proofs.Common.{rules, tests}
use Rattle.anb_code.proofs.Shapes.{many_first, twice_first, shape_first, format_fine}
use Rattle.anb_code.proofs.checks.check_format.Goals as goal

pub returns-then-are_many-clause-refused : goal.returns-then-are_many-clause-refused
returns-then-are_many-clause-refused c = many_first c.args.before.now c.args.format.now (search (rules, tests))

pub returns-then-is_named_before-clause-refused : goal.returns-then-is_named_before-clause-refused
returns-then-is_named_before-clause-refused c = twice_first c.args.before.now c.args.format.now (search (rules, tests)) (search (rules, tests))

pub returns-in-Ok-clause-fine : goal.returns-in-Ok-clause-fine
returns-in-Ok-clause-fine c = format_fine c.args.before.now c.args.format.now (search (rules, tests)) (search (rules, tests)) c.in-Ok.ensures.fine

pub returns-in-Err-clause-refused : goal.returns-in-Err-clause-refused
returns-in-Err-clause-refused c = shape_first c.args.before.now c.args.format.now c.in-Err.fault (search (rules, tests)) (search (rules, tests)) c.in-Err.ensures.refused
