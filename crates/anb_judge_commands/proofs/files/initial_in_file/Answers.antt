use Rattle.std.proofs.Common.{refl}
use Rattle.anb_lemmas.proofs.Results.{if_ok_map}
use Rattle.anb_command.specs.Roles.{Part}
use Rattle.anb_command.specs.Steps.{given, refused}
use Rattle.anb_command.proofs.Failing.{IsFailure-map}
use Rattle.anb_command.proofs.Preparing.{if_err_map}
use Rattle.anb_judge_commands.proofs.Reading.{initial_answers, values_refused}
use Rattle.anb_judge_commands.proofs.files.initial_in_file.Goals as goal

pub returns-in-Ok-clause-given : goal.returns-in-Ok-clause-given
returns-in-Ok-clause-given g c =
    let part : Part = record { protocol = c.args.protocol.now; role = c.args.role } in
    if_ok_map c.initial_of.result _ _ (λ initial is. initial_answers (g.F.Shelf.files c.args.shelf.now) part c.args.values.now c.in-Ok.fitted (given initial.items) c.in-Ok.ensures.given (rw c.as_slice.ensures at is)) c.initial_of.ensures.given

pub returns-in-Ok-clause-refused : goal.returns-in-Ok-clause-refused
returns-in-Ok-clause-refused g c =
    let part : Part = record { protocol = c.args.protocol.now; role = c.args.role } in
    if_err_map c.initial_of.result _ _ (λ s fails. IsFailure-map s _ _ _ _ (λ file never. absurd never)
    (λ is. initial_answers (g.F.Shelf.files c.args.shelf.now) part c.args.values.now c.in-Ok.fitted (refused s) c.in-Ok.ensures.given (rw c.as_slice.ensures at is)) fails) c.initial_of.ensures.refused

pub returns-in-Err-clause-refused : goal.returns-in-Err-clause-refused
returns-in-Err-clause-refused g c =
    let part : Part = record { protocol = c.args.protocol.now; role = c.args.role } in
    IsFailure-map c.in-Err.status _ _ _ _ (λ file at. at) (λ is. values_refused (g.F.Shelf.files c.args.shelf.now) part c.args.values.now c.in-Err.status is) c.in-Err.ensures.refused

pub returns-in-Ok-clause-told : goal.returns-in-Ok-clause-told
returns-in-Ok-clause-told g c = λ other. c.in-Ok.ensures.told refl
