use Rattle.std.proofs.Common.{inl, inr, refl, ◌∙◌}
use Rattle.anb_base.proofs.Moving.{Rose-later}
use Rattle.anb_lemmas.proofs.Results.{if_ok_map}
use Rattle.anb_command.specs.Roles.{Part}
use Rattle.anb_command.proofs.Failing.{IsFailure-map}
use Rattle.anb_command.proofs.Preparing.{if_err_map}
use Rattle.anb_role_commands.proofs.Preparing.{part_refused, job_refused, whole_prepared, whole_ready, whole_ready_in_each, narration_read, values_read}
use Rattle.anb_role_commands.proofs.role_play.prepare.Goals as goal

pub returns-in-Ok-clause-ready : goal.returns-in-Ok-clause-ready
returns-in-Ok-clause-ready g c =
    let kept = c.playable_in_file.ensures.fetches.same_files in
    let playable = c.in-Ok.playable in
    if_ok_map c.prepare_role.result _ _ (λ p is.
    whole_ready (g.F.Shelf.files c.args.shelf.now) c.args.words.narration.now c.args.words.name.now c.args.words.values.now c.args.host_seed
    (record { protocol = playable.protocol; role = playable.role }) p.code p.initial p.seed c.in-Ok.ensures.given is) (rw kept at c.prepare_role.ensures.ready)

pub returns-in-Ok-clause-prepared : goal.returns-in-Ok-clause-prepared
returns-in-Ok-clause-prepared g c =
    let kept = c.playable_in_file.ensures.fetches.same_files in
    let playable = c.in-Ok.playable in
    if_ok_map c.prepare_role.result _ _ (λ p is.
    whole_prepared (g.F.Shelf.files c.args.shelf.now) c.args.words.narration.now c.args.words.name.now c.args.words.values.now c.args.host_seed
    (record { protocol = playable.protocol; role = playable.role }) p.code p.initial p.seed c.in-Ok.ensures.given is) (rw kept at c.prepare_role.ensures.prepared)

pub returns-in-Ok-clause-sessions : goal.returns-in-Ok-clause-sessions
returns-in-Ok-clause-sessions g c =
    let kept = c.playable_in_file.ensures.fetches.same_files in
    let playable = c.in-Ok.playable in
    if_ok_map c.prepare_role.result _ _ (λ p is.
    whole_ready_in_each (g.F.Shelf.files c.args.shelf.now) c.args.words.narration.now c.args.words.name.now c.args.words.values.now c.args.host_seed
    (record { protocol = playable.protocol; role = playable.role }) p.code p.initial p.seed c.in-Ok.ensures.given is) (rw kept at c.prepare_role.ensures.sessions)

pub returns-in-Ok-clause-refused : goal.returns-in-Ok-clause-refused
returns-in-Ok-clause-refused g c =
    let kept = c.playable_in_file.ensures.fetches in
    let playable = c.in-Ok.playable in
    let told = g.F.Shelf.files c.args.shelf.now in
    let part : Part = record { protocol = playable.protocol; role = playable.role } in
    if_err_map c.prepare_role.result _ _ (λ s fails. IsFailure-map s _ _ _ _
    (λ file at. (inr (inl at.0), Rose-later _ _ _ (kept.never_falls file) at.1, values_read told c.args.words.narration.now c.args.words.name.now c.args.words.values.now c.args.host_seed part file c.in-Ok.ensures.given at.0))
    (λ is. job_refused told c.args.words.narration.now c.args.words.name.now c.args.words.values.now c.args.host_seed part s c.in-Ok.ensures.given is) fails)
    (rw kept.same_files at c.prepare_role.ensures.refused)

pub returns-in-Err-clause-refused : goal.returns-in-Err-clause-refused
returns-in-Err-clause-refused g c =
    let told = g.F.Shelf.files c.args.shelf.now in
    IsFailure-map c.in-Err.status _ _ _ _
    (λ file at. (inl at.0, at.1, narration_read told c.args.words.narration.now c.args.words.name.now c.args.words.values.now c.args.host_seed file at.0))
    (λ is. part_refused told c.args.words.narration.now c.args.words.name.now c.args.words.values.now c.args.host_seed c.in-Err.status is)
    c.in-Err.ensures.refused

pub returns-in-Ok-clause-told : goal.returns-in-Ok-clause-told
returns-in-Ok-clause-told g c = λ other. c.prepare_role.ensures.told other ∙ c.in-Ok.ensures.told refl

pub returns-in-Err-clause-told : goal.returns-in-Err-clause-told
returns-in-Err-clause-told g c = c.in-Err.ensures.told
