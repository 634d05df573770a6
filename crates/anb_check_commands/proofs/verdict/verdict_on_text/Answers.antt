use Rattle.anb_check_commands.proofs.Verdicts.{of_narration}
use Rattle.anb_lemmas.proofs.Results.{if_ok_map}
use Rattle.anb_syntax.specs.Views.{narration_of}
use Rattle.anb_check_commands.proofs.verdict.verdict_on_text.Goals as goal

pub returns-in-Ok-clause-is : goal.returns-in-Ok-clause-is
returns-in-Ok-clause-is c =
    if_ok_map c.verdict_on_narration.result _ _
    (λ v. of_narration c.args.name.now c.args.text.now (narration_of c.in-Ok.narration) c.in-Ok.ensures.found v.status v.said) c.verdict_on_narration.ensures.is
