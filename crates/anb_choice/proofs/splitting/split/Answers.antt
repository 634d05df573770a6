use Rattle.anb_choice.specs.Views.{branched_of}
use Rattle.anb_choice.proofs.Faults.{exactly, never_refused}
use Rattle.anb_choice.proofs.splitting.split.Goals as goal

pub returns-in-Ok-clause-only : goal.returns-in-Ok-clause-only
returns-in-Ok-clause-only c = λ b text lawful. c.choices_are_unique.ensures c.args.text.now (branched_of c.in-Ok.b) b c.in-Ok.ensures.tells text

pub returns-in-Ok-clause-exact : goal.returns-in-Ok-clause-exact
returns-in-Ok-clause-exact c = λ e refused. c.no_choice_is_refused.ensures c.args.text.now (branched_of c.in-Ok.b) e c.in-Ok.ensures.tells c.in-Ok.ensures.lawful refused

pub returns-in-Err-clause-only : goal.returns-in-Err-clause-only
returns-in-Err-clause-only c = λ b text lawful. never_refused c.no_choice_is_refused.ensures c.args.text.now b c.in-Err.no text lawful c.in-Err.ensures.refused

pub returns-in-Err-clause-exact : goal.returns-in-Err-clause-exact
returns-in-Err-clause-exact c = λ e refused. exactly c.branch_refusals_are_unique.ensures c.args.text.now c.in-Err.no e c.in-Err.ensures.refused refused
