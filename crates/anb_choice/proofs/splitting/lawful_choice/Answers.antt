use Rattle.std.proofs.Common.{sym, ◌∙◌}
use Rattle.anb_choice.specs.Views.{branched_of}
use Rattle.anb_choice.proofs.Faults.{choice_refusal, untold_refusal}
use Rattle.anb_choice.proofs.splitting.lawful_choice.Goals as goal

pub returns-in-Err-clause-refused : goal.returns-in-Err-clause-refused
returns-in-Err-clause-refused c = λ some. untold_refusal c.args.text.now c.in-Err.no (c.in-Err.ensures.refused some)

pub returns-in-Ok-None-clause-lawful : goal.returns-in-Ok-None-clause-lawful
returns-in-Ok-None-clause-lawful c =
    c.faultless_is_lawful.ensures c.args.text.now (branched_of c.in-Ok.branched) c.in-Ok.ensures.tells (sym c.in-Ok-None.ensures ∙ c.in-Ok-None.field-0-is)

pub returns-in-Ok-Some-clause-refused : goal.returns-in-Ok-Some-clause-refused
returns-in-Ok-Some-clause-refused c = λ some.
    choice_refusal c.args.text.now (branched_of c.in-Ok.branched) c.in-Ok-Some.no c.in-Ok.ensures.tells (sym c.in-Ok-Some.ensures ∙ c.in-Ok-Some.field-0-is)
