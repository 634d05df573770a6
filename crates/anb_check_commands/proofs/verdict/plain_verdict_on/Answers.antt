use Rattle.std.proofs.Common.{inl, inr}
use Rattle.anb_check_commands.proofs.Verdicts.{of_narration}
use Rattle.anb_lemmas.proofs.Results.{if_ok_map}
use Rattle.anb_syntax.specs.Views.{narration_of}
use Rattle.anb_check_commands.proofs.verdict.plain_verdict_on.Goals as goal

pub returns-in-Ok-clause-is : goal.returns-in-Ok-clause-is
returns-in-Ok-clause-is c =
    let n = narration_of c.in-Ok.narration in
    if_ok_map c.verdict_on_narration.result _ _
    (λ v on. inl (n, c.in-Ok.ensures.found, of_narration c.args.name.now c.args.text.now n c.in-Ok.ensures.found v.status v.said on)) c.verdict_on_narration.ensures.is
