use Rattle.std.proofs.Common.{refl, subst, sym}
use Rattle.anb_lemmas.proofs.Results.{if_ok_map}
use Rattle.anb_command.specs.Fetches.{IfTold}
use Rattle.anb_command.specs.Files.{ValuesInFile}
use Rattle.anb_command.specs.Steps.{given, refused}
use Rattle.anb_command.proofs.Failing.{IsFailure-map}
use Rattle.anb_command.proofs.Preparing.{if_err_map}
use Rattle.anb_protocol.specs.Texts.{known_names}
use Rattle.anb_values.specs.declared.fitted.Fitted.{Fitted}
use Rattle.anb_probe_commands.specs.Tasks.{part_by, probing_by}
use Rattle.anb_probe_commands.proofs.Reading.{values_answer, values_refused}
use Rattle.anb_probe_commands.proofs.files.task_of.Goals as goal

pub returns-in-Ok-clause-given : goal.returns-in-Ok-clause-given
returns-in-Ok-clause-given g c =
    let part = part_by c.args.playable.protocol c.args.playable.role in
    if_ok_map c.settle.result _ _ (λ t is. values_answer (g.F.Shelf.files c.args.shelf.now) part c.args.values.now c.args.host_seed c.in-Ok.fitted
    (given (probing_by t.protocol t.role t.values t.seed)) c.in-Ok.ensures.given is) c.settle.ensures.given

pub returns-in-Ok-clause-refused : goal.returns-in-Ok-clause-refused
returns-in-Ok-clause-refused g c =
    let part = part_by c.args.playable.protocol c.args.playable.role in
    if_err_map c.settle.result _ _ (λ s fails. IsFailure-map s _ _ _ _ (λ file never. absurd never)
    (λ is. values_answer (g.F.Shelf.files c.args.shelf.now) part c.args.values.now c.args.host_seed c.in-Ok.fitted (refused s) c.in-Ok.ensures.given is) fails) c.settle.ensures.refused

pub returns-in-Err-clause-refused : goal.returns-in-Err-clause-refused
returns-in-Err-clause-refused g c =
    let part = part_by c.args.playable.protocol c.args.playable.role in
    IsFailure-map c.in-Err.status _ _ _ _ (λ file at. at) (λ is. values_refused (g.F.Shelf.files c.args.shelf.now) part c.args.values.now c.args.host_seed c.in-Err.status is) c.in-Err.ensures.refused

pub returns-in-Ok-clause-told : goal.returns-in-Ok-clause-told
returns-in-Ok-clause-told g c = λ other. c.in-Ok.ensures.told refl

pub returns-in-Ok-clause-fitted : goal.returns-in-Ok-clause-fitted
returns-in-Ok-clause-fitted g c =
    if_ok_map c.settle.result _ _ (λ t is.
    subst (λ (f : Fitted). IfTold (g.F.Shelf.files c.args.shelf.now) (λ files. ValuesInFile files c.args.values.now (known_names c.args.playable.protocol) (given f))) (sym is) c.in-Ok.ensures.given)
    c.settle.ensures.fitted
