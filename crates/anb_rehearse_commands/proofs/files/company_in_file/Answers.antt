use Rattle.anb_command.proofs.Failing.{IsFailure-map}
use Rattle.anb_rehearse_commands.proofs.Asking.{protocol_refused, sendable_given, sending_refused}
use Rattle.anb_rehearse_commands.proofs.files.company_in_file.Goals as goal

pub returns-in-Ok-codes_of-clause-given : goal.returns-in-Ok-codes_of-clause-given
returns-in-Ok-codes_of-clause-given g c =
    sendable_given (g.F.Shelf.files c.args.shelf.now) c.args.narration.now c.in-Ok.protocol c.in-Ok.ensures.given c.in-Ok-codes_of.ensures.given

pub returns-in-Err-codes_of-clause-refused : goal.returns-in-Err-codes_of-clause-refused
returns-in-Err-codes_of-clause-refused g c =
    IsFailure-map c.in-Err-codes_of.status _ _ _ _ (λ file never. absurd never)
    (λ is. sending_refused (g.F.Shelf.files c.args.shelf.now) c.args.narration.now c.in-Ok.protocol c.in-Err-codes_of.status c.in-Ok.ensures.given is) c.in-Err-codes_of.ensures.refused

pub returns-in-Err-clause-refused : goal.returns-in-Err-clause-refused
returns-in-Err-clause-refused g c =
    IsFailure-map c.in-Err.status _ _ _ _ (λ file cause. cause)
    (λ is. protocol_refused (g.F.Shelf.files c.args.shelf.now) c.args.narration.now c.in-Err.status is) c.in-Err.ensures.refused
