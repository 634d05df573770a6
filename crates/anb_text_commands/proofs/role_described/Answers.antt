use Rattle.anb_command.specs.Roles.{Part, PartInFile}
use Rattle.anb_text_commands.specs.TextCommands.{Describes, text_by}
use Rattle.anb_command.proofs.Chains.{first_refused, then_given}
use Rattle.anb_command.proofs.Failing.{IsFailure-map}
use Rattle.anb_text_commands.proofs.role_described.Goals as goal

pub returns-in-Ok-explanation_for-clause-given : goal.returns-in-Ok-explanation_for-clause-given
returns-in-Ok-explanation_for-clause-given g c =
    let playable = c.in-Ok.playable in
    let part : Part = record { protocol = playable.protocol; role = playable.role } in
    then_given (λ files. PartInFile files c.args.narration.now c.args.role.now) (Describes c.args.kind) (g.F.Shelf.files c.args.shelf.now) part (text_by playable.protocol playable.code c.in-Ok-explanation_for.explanation)
    c.in-Ok.ensures.given (record { code = playable.code; accepted = c.explanation_for.ensures.accepted; spellable = c.explanation_for.ensures.spellable; fits = c.in-Ok.ensures.fits; plays = c.explanation_for.ensures.plays; is = c.in-Ok-explanation_for.ensures.text })

pub returns-in-Err-clause-refused : goal.returns-in-Err-clause-refused
returns-in-Err-clause-refused g c =
    IsFailure-map c.in-Err.status _ _ _ _ (λ file at. at)
    (λ is. first_refused (λ files. PartInFile files c.args.narration.now c.args.role.now) (Describes c.args.kind) (g.F.Shelf.files c.args.shelf.now) c.in-Err.status is) c.in-Err.ensures.refused
