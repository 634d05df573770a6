use Rattle.anb_command.specs.Files.{ProtocolInFile}
use Rattle.anb_command.proofs.Chains.{first_refused, then_given}
use Rattle.anb_command.proofs.Failing.{IsFailure-map}
use Rattle.anb_certify_commands.specs.WhyCommand.{WhyOf}
use Rattle.anb_certify_commands.proofs.why_text.Goals as goal

pub returns-in-Ok-reason_text-clause-given : goal.returns-in-Ok-reason_text-clause-given
returns-in-Ok-reason_text-clause-given g c =
    then_given (λ files. ProtocolInFile files c.args.narration.now) WhyOf (g.F.Shelf.files c.args.shelf.now) c.in-Ok.protocol c.in-Ok-reason_text.text
    c.in-Ok.ensures.given c.in-Ok-reason_text.ensures

pub returns-in-Err-clause-refused : goal.returns-in-Err-clause-refused
returns-in-Err-clause-refused g c =
    IsFailure-map c.in-Err.status _ _ _ _ (λ file at. at)
    (λ is. first_refused (λ files. ProtocolInFile files c.args.narration.now) WhyOf (g.F.Shelf.files c.args.shelf.now) c.in-Err.status is) c.in-Err.ensures.refused
