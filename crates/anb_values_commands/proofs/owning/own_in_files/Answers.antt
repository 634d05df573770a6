use Rattle.std.proofs.Common.{◌∙◌, inl, inr, refl}
use Rattle.anb_lemmas.proofs.Results.{if_ok_map}
use Rattle.anb_base.proofs.Moving.{Rose-later}
use Rattle.anb_command.specs.Steps.{given, refused}
use Rattle.anb_command.proofs.Failing.{IsFailure-map}
use Rattle.anb_command.proofs.Preparing.{if_err_map}
use Rattle.anb_values_commands.proofs.Owned.{narration_read, narration_refused, own_answers, role_refused, values_read, values_refused}
use Rattle.anb_values_commands.proofs.owning.own_in_files.Goals as goal

pub returns-in-Err-clause-refused : goal.returns-in-Err-clause-refused
returns-in-Err-clause-refused g c =
    let told = g.F.Shelf.files c.args.shelf.now in
    IsFailure-map c.in-Err.status _ _ _ _
    (λ each at. (inl at.0, at.1, narration_read told c.args.narration.now c.args.name.now c.args.values.now each at.0))
    (λ is. narration_refused told c.args.narration.now c.args.name.now c.args.values.now c.in-Err.status is) c.in-Err.ensures.refused

pub returns-in-Err-role_named-clause-refused : goal.returns-in-Err-role_named-clause-refused
returns-in-Err-role_named-clause-refused g c =
    let told = g.F.Shelf.files c.args.shelf.now in
    IsFailure-map c.in-Err-role_named.status _ _ _ _ (λ each never. absurd never)
    (λ is. role_refused told c.args.narration.now c.args.name.now c.args.values.now c.in-Ok.protocol c.in-Ok.ensures.given c.in-Err-role_named.status is)
    c.in-Err-role_named.ensures.refused

pub returns-in-Err-values_for-clause-refused : goal.returns-in-Err-values_for-clause-refused
returns-in-Err-values_for-clause-refused g c =
    let told = g.F.Shelf.files c.args.shelf.now in
    let kept = c.protocol_in_file.ensures.fetches in
    let role = c.in-Ok-role_named in
    IsFailure-map c.in-Err-values_for.status _ _ _ _
    (λ each at. (
      inr (inl at.0),
      Rose-later _ _ _ (kept.never_falls each) at.1,
      values_read told c.args.narration.now c.args.name.now c.args.values.now c.in-Ok.protocol c.in-Ok.ensures.given role.role role.ensures.given each at.0,
    ))
    (λ is. values_refused told c.args.narration.now c.args.name.now c.args.values.now c.in-Ok.protocol c.in-Ok.ensures.given role.role role.ensures.given c.in-Err-values_for.status is)
    (rw kept.same_files at c.in-Err-values_for.ensures.refused)

pub returns-clause-given : goal.returns-clause-given
returns-clause-given g c =
    let told = g.F.Shelf.files c.args.shelf.now in
    let kept = c.protocol_in_file.ensures.fetches in
    let role = c.in-Ok-role_named in
    if_ok_map c.own_text.result _ _
    (λ text is. own_answers told c.args.narration.now c.args.name.now c.args.values.now c.in-Ok.protocol c.in-Ok.ensures.given role.role role.ensures.given
    c.in-Ok-values_for.fitted (given text) (rw kept.same_files at c.in-Ok-values_for.ensures.given) is)
    c.own_text.ensures.given

pub returns-clause-refused : goal.returns-clause-refused
returns-clause-refused g c =
    let told = g.F.Shelf.files c.args.shelf.now in
    let kept = c.protocol_in_file.ensures.fetches in
    let role = c.in-Ok-role_named in
    if_err_map c.own_text.result _ _ (λ s fails. IsFailure-map s _ _ _ _ (λ each never. absurd never)
    (λ is. own_answers told c.args.narration.now c.args.name.now c.args.values.now c.in-Ok.protocol c.in-Ok.ensures.given role.role role.ensures.given
    c.in-Ok-values_for.fitted (refused s) (rw kept.same_files at c.in-Ok-values_for.ensures.given) is) fails)
    c.own_text.ensures.refused

pub returns-in-Err-clause-told : goal.returns-in-Err-clause-told
returns-in-Err-clause-told g c = c.in-Err.ensures.told

pub returns-in-Err-role_named-clause-told : goal.returns-in-Err-role_named-clause-told
returns-in-Err-role_named-clause-told g c = λ _. c.in-Ok.ensures.told refl

pub returns-in-Err-values_for-clause-told : goal.returns-in-Err-values_for-clause-told
returns-in-Err-values_for-clause-told g c = λ other. c.in-Err-values_for.ensures.told other ∙ c.in-Ok.ensures.told refl

pub returns-clause-told : goal.returns-clause-told
returns-clause-told g c = λ _. c.in-Ok-values_for.ensures.told refl ∙ c.in-Ok.ensures.told refl
