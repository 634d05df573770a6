use Rattle.std.proofs.Common.{inl, inr, refl, ◌∙◌}
use Rattle.anb_base.proofs.Moving.{Rose-later}
use Rattle.anb_lemmas.proofs.Results.{if_ok_map}
use Rattle.anb_role_commands.proofs.Enacting.{code_read, code_refused, errand_answers, values_read}
use Rattle.anb_command.proofs.Failing.{IsFailure-map}
use Rattle.anb_command.proofs.Preparing.{if_err_map}
use Rattle.anb_command.specs.Steps.{given, refused}
use Rattle.anb_role_commands.proofs.role_file.load_prepared.Goals as goal

pub returns-in-Ok-clause-given : goal.returns-in-Ok-clause-given
returns-in-Ok-clause-given g c =
    let kept = c.code_in_file.ensures.fetches.same_files in
    let words = c.args.words in
    if_ok_map c.prepare_code.result _ _ (λ p is.
    errand_answers (g.F.Shelf.files c.args.shelf.now) words.code.now words.values.now c.args.host_seed c.in-Ok.code
    (given (record { code = p.code; initial = p.initial; seed = p.seed })) c.in-Ok.ensures.given is) (rw kept at c.prepare_code.ensures.given)

pub returns-in-Ok-clause-refused : goal.returns-in-Ok-clause-refused
returns-in-Ok-clause-refused g c =
    let kept = c.code_in_file.ensures.fetches in
    let words = c.args.words in
    let told = g.F.Shelf.files c.args.shelf.now in
    if_err_map c.prepare_code.result _ _ (λ s fails. IsFailure-map s _ _ _ _
    (λ name at. (inr (inl at.0), Rose-later _ _ _ (kept.never_falls name) at.1, values_read told words.code.now words.values.now c.args.host_seed c.in-Ok.code name c.in-Ok.ensures.given at.0))
    (λ is. errand_answers told words.code.now words.values.now c.args.host_seed c.in-Ok.code (refused s) c.in-Ok.ensures.given is) fails)
    (rw kept.same_files at c.prepare_code.ensures.refused)

pub returns-in-Err-clause-refused : goal.returns-in-Err-clause-refused
returns-in-Err-clause-refused g c =
    let told = g.F.Shelf.files c.args.shelf.now in
    let words = c.args.words in
    IsFailure-map c.in-Err.status _ _ _ _
    (λ name at. (inl at.0, at.1, code_read told words.code.now words.values.now c.args.host_seed name at.0))
    (λ is. code_refused told words.code.now words.values.now c.args.host_seed c.in-Err.status is)
    c.in-Err.ensures.refused

pub returns-in-Ok-clause-told : goal.returns-in-Ok-clause-told
returns-in-Ok-clause-told g c = λ other. c.prepare_code.ensures.told other ∙ c.in-Ok.ensures.told refl

pub returns-in-Err-clause-told : goal.returns-in-Err-clause-told
returns-in-Err-clause-told g c = c.in-Err.ensures.told
