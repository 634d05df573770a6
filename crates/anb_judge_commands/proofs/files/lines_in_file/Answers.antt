use Rattle.std.proofs.Common.{refl, sym, ◌∙◌}
use Rattle.anb_command.specs.Steps.{given, refused}
use Rattle.anb_command.proofs.Failing.{IsFailure-map}
use Rattle.anb_status.specs.declared.status.Status.TheVariants.{BadTranscript}
use Rattle.anb_judge_commands.proofs.Reading.{lines_answer, none_is_long, text_refused}
use Rattle.anb_judge_commands.proofs.files.lines_in_file.Goals as goal

pub returns-in-Err-clause-refused : goal.returns-in-Err-clause-refused
returns-in-Err-clause-refused g c =
    IsFailure-map c.in-Err.status _ _ _ _ (λ file at. at) (λ is. text_refused (g.F.Shelf.files c.args.shelf.now) c.args.name.now c.in-Err.status is) c.in-Err.ensures.refused

pub returns-in-Some-clause-refused : goal.returns-in-Some-clause-refused
returns-in-Some-clause-refused g c =
    lines_answer (g.F.Shelf.files c.args.shelf.now) c.args.name.now c.in-Ok.transcript (refused (BadTranscript c.in-Some.line)) c.in-Ok.ensures.given (c.in-Some.line, refl, sym c.long_line.ensures ∙ c.in-Some.is)

pub returns-in-None-clause-given : goal.returns-in-None-clause-given
returns-in-None-clause-given g c =
    lines_answer (g.F.Shelf.files c.args.shelf.now) c.args.name.now c.in-Ok.transcript (given c.in-Ok.transcript) c.in-Ok.ensures.given (sym c.long_line.ensures ∙ c.in-None.is, refl)

pub returns-in-None-clause-lines : goal.returns-in-None-clause-lines
returns-in-None-clause-lines g c = none_is_long 1 c.in-Ok.transcript (sym c.long_line.ensures ∙ c.in-None.is)
