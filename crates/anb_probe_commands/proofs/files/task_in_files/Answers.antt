use Rattle.std.proofs.Common.{inl, inr, refl, ◌∙◌}
use Rattle.anb_base.proofs.Moving.{Rose-later}
use Rattle.anb_lemmas.proofs.Results.{if_ok_map}
use Rattle.anb_command.specs.Steps.{given, refused}
use Rattle.anb_command.proofs.Failing.{IsFailure-map}
use Rattle.anb_command.proofs.Preparing.{if_err_map}
use Rattle.anb_probe_commands.specs.Tasks.{fitted_by, part_by, probing_by}
use Rattle.anb_probe_commands.proofs.Own.{if_ok_both, own_answers}
use Rattle.anb_probe_commands.proofs.Reading.{narration_read, part_answers, part_refused, values_read}
use Rattle.anb_probe_commands.proofs.files.task_in_files.Goals as goal

pub returns-in-Ok-clause-given : goal.returns-in-Ok-clause-given
returns-in-Ok-clause-given g c =
    let words = c.args.words in
    let playable = c.in-Ok.playable in
    if_ok_map c.task_of.result _ _ (λ t is.
    part_answers words.narration.now words.name.now words.values.now c.args.host_seed (g.F.Shelf.files c.args.shelf.now) (part_by playable.protocol playable.role) c.in-Ok.ensures.given
    (given (probing_by t.protocol t.role t.values t.seed)) is) (rw c.playable_in_file.ensures.fetches.same_files at c.task_of.ensures.given)

pub returns-in-Ok-clause-refused : goal.returns-in-Ok-clause-refused
returns-in-Ok-clause-refused g c =
    let words = c.args.words in
    let playable = c.in-Ok.playable in
    let told = g.F.Shelf.files c.args.shelf.now in
    let kept = c.playable_in_file.ensures.fetches in
    let part = part_by playable.protocol playable.role in
    if_err_map c.task_of.result _ _ (λ s fails. IsFailure-map s _ _ _ _
    (λ file at. (
      inr (inl at.0),
      Rose-later _ _ _ (kept.never_falls file) at.1,
      values_read words.narration.now words.name.now words.values.now c.args.host_seed told part c.in-Ok.ensures.given file at.0,
    ))
    (λ is. part_answers words.narration.now words.name.now words.values.now c.args.host_seed told part c.in-Ok.ensures.given (refused s) is) fails)
    (rw kept.same_files at c.task_of.ensures.refused)

pub returns-in-Err-clause-refused : goal.returns-in-Err-clause-refused
returns-in-Err-clause-refused g c =
    let words = c.args.words in
    let told = g.F.Shelf.files c.args.shelf.now in
    IsFailure-map c.in-Err.status _ _ _ _
    (λ file at. (inl at.0, at.1, narration_read words.narration.now words.name.now words.values.now c.args.host_seed told file at.0))
    (λ is. part_refused words.narration.now words.name.now words.values.now c.args.host_seed told c.in-Err.status is) c.in-Err.ensures.refused

pub returns-in-Ok-clause-told : goal.returns-in-Ok-clause-told
returns-in-Ok-clause-told g c = λ other. c.task_of.ensures.told other ∙ c.in-Ok.ensures.told refl

pub returns-in-Err-clause-told : goal.returns-in-Err-clause-told
returns-in-Err-clause-told g c = c.in-Err.ensures.told

pub returns-in-Ok-clause-own : goal.returns-in-Ok-clause-own
returns-in-Ok-clause-own g c =
    let words = c.args.words in
    let playable = c.in-Ok.playable in
    if_ok_both c.task_of.result _ _ _ (λ t same fits.
    own_answers words.narration.now words.name.now words.values.now (g.F.Shelf.files c.args.shelf.now) (part_by playable.protocol playable.role) (part_by t.protocol t.role) (fitted_by t.values t.file_seed)
    c.in-Ok.ensures.given same fits) c.task_of.ensures.same (rw c.playable_in_file.ensures.fetches.same_files at c.task_of.ensures.fitted)
