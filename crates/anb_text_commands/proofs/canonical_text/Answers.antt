use Rattle.std.proofs.Common.{ap}
use Rattle.anb_syntax.specs.Views.{narration_of}
use Rattle.anb_command.specs.Files.{NarrationInFile}
use Rattle.anb_command.specs.Steps.{given}
use Rattle.anb_text_commands.specs.TextCommands.{CanonicalOf}
use Rattle.anb_command.proofs.Chains.{first_refused, then_given}
use Rattle.anb_command.proofs.Failing.{IsFailure-map}
use Rattle.anb_text_commands.proofs.canonical_text.Goals as goal

pub returns-in-Ok-text_of-clause-given : goal.returns-in-Ok-text_of-clause-given
returns-in-Ok-text_of-clause-given g c =
    then_given (λ files. NarrationInFile files c.args.narration.now) CanonicalOf (g.F.Shelf.files c.args.shelf.now) (narration_of c.in-Ok.read) c.in-Ok-text_of.text
    c.in-Ok.ensures.given (ap given c.in-Ok-text_of.ensures)

pub returns-in-Err-clause-refused : goal.returns-in-Err-clause-refused
returns-in-Err-clause-refused g c =
    IsFailure-map c.in-Err.status _ _ _ _ (λ file cause. cause)
    (λ is. first_refused (λ files. NarrationInFile files c.args.narration.now) CanonicalOf (g.F.Shelf.files c.args.shelf.now) c.in-Err.status is) c.in-Err.ensures.refused
