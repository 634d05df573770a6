use Rattle.std.proofs.Common.{arith}
use Rattle.anb_lemmas.proofs.Results.{if_ok_map}
use Rattle.anb_syntax.specs.Views.{narration_of}
use Rattle.anb_check_commands.proofs.Verdicts.{well}
use Rattle.anb_check_commands.proofs.verdict.verdict_on_narration.Goals as goal

pub resolve-requires-clause-countable : goal.resolve-requires-clause-countable
resolve-requires-clause-countable c = c.small_is_countable.ensures (narration_of c.args.narration.now) c.requires.spellable (omega (arith, c.requires.small))

pub returns-in-Ok-clause-is : goal.returns-in-Ok-clause-is
returns-in-Ok-clause-is c =
    if_ok_map c.verdict_on_protocol.result _ _
    (λ v on. well c.args.name.now c.args.text.now (narration_of c.args.narration.now) c.in-Ok.protocol v.status v.said c.in-Ok.ensures.well_formed c.in-Ok.ensures.protocol on) c.verdict_on_protocol.ensures.is
