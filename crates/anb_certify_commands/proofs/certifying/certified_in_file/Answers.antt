use Rattle.std.proofs.Common.{codes, inl, inr, refl, ◌∙◌}
use Rattle.anb_base.proofs.Moving.{Rose-later}
use Rattle.anb_command.specs.Steps.{given, refused}
use Rattle.anb_command.proofs.Failing.{IsFailure-map}
use Rattle.anb_command.proofs.Preparing.{if_err_map}
use Rattle.anb_certify_commands.proofs.Certificates.{code_answers, code_read, code_refused, narration_read, narration_refused, on_ok_map, role_refused}
use Rattle.anb_certify_commands.proofs.certifying.certified_in_file.Goals as goal

pub returns-in-Err-clause-refused : goal.returns-in-Err-clause-refused
returns-in-Err-clause-refused g c =
    let words = c.args.words in
    let told = g.F.Shelf.files c.args.shelf.now in
    IsFailure-map c.in-Err.status _ _ _ _
    (λ each at. (inl at.0, at.1, narration_read told words.narration.now words.name.now words.code.now each at.0))
    (λ is. narration_refused told words.narration.now words.name.now words.code.now c.in-Err.status is) c.in-Err.ensures.refused

pub returns-in-Err-role_named-clause-refused : goal.returns-in-Err-role_named-clause-refused
returns-in-Err-role_named-clause-refused g c =
    let words = c.args.words in
    let told = g.F.Shelf.files c.args.shelf.now in
    IsFailure-map c.in-Err-role_named.status _ _ _ _ (λ each never. absurd never)
    (λ is. role_refused told words.narration.now words.name.now words.code.now c.in-Ok.protocol c.in-Ok.ensures.given c.in-Err-role_named.status is)
    c.in-Err-role_named.ensures.refused

pub returns-in-Err-code_in_file-clause-refused : goal.returns-in-Err-code_in_file-clause-refused
returns-in-Err-code_in_file-clause-refused g c =
    let words = c.args.words in
    let told = g.F.Shelf.files c.args.shelf.now in
    let kept = c.protocol_in_file.ensures.fetches in
    let role = c.in-Ok-role_named in
    IsFailure-map c.in-Err-code_in_file.status _ _ _ _
    (λ each at. (
      inr (inl at.0),
      Rose-later _ _ _ (kept.never_falls each) at.1,
      code_read told words.narration.now words.name.now words.code.now c.in-Ok.protocol c.in-Ok.ensures.given role.role role.ensures.given each at.0,
    ))
    (λ is. code_refused told words.narration.now words.name.now words.code.now c.in-Ok.protocol c.in-Ok.ensures.given role.role role.ensures.given c.in-Err-code_in_file.status is)
    (rw kept.same_files at c.in-Err-code_in_file.ensures.refused)

pub returns-clause-given : goal.returns-clause-given
returns-clause-given g c =
    let words = c.args.words in
    let told = g.F.Shelf.files c.args.shelf.now in
    let kept = c.protocol_in_file.ensures.fetches in
    let role = c.in-Ok-role_named in
    on_ok_map c.certified_code.result _ _
    (λ is. code_answers told words.narration.now words.name.now words.code.now c.in-Ok.protocol c.in-Ok.ensures.given role.role role.ensures.given
    c.in-Ok-code_in_file.code (given (codes "certified\n")) (rw kept.same_files at c.in-Ok-code_in_file.ensures.given) is)
    c.certified_code.ensures.given

pub returns-clause-refused : goal.returns-clause-refused
returns-clause-refused g c =
    let words = c.args.words in
    let told = g.F.Shelf.files c.args.shelf.now in
    let kept = c.protocol_in_file.ensures.fetches in
    let role = c.in-Ok-role_named in
    if_err_map c.certified_code.result _ _ (λ s fails. IsFailure-map s _ _ _ _ (λ each never. absurd never)
    (λ is. code_answers told words.narration.now words.name.now words.code.now c.in-Ok.protocol c.in-Ok.ensures.given role.role role.ensures.given
    c.in-Ok-code_in_file.code (refused s) (rw kept.same_files at c.in-Ok-code_in_file.ensures.given) is) fails)
    c.certified_code.ensures.refused

pub returns-in-Err-role_named-clause-told : goal.returns-in-Err-role_named-clause-told
returns-in-Err-role_named-clause-told g c = λ _. c.in-Ok.ensures.told refl

pub returns-in-Err-code_in_file-clause-told : goal.returns-in-Err-code_in_file-clause-told
returns-in-Err-code_in_file-clause-told g c = λ other. c.in-Err-code_in_file.ensures.told other ∙ c.in-Ok.ensures.told refl

pub returns-clause-told : goal.returns-clause-told
returns-clause-told g c = λ _. c.in-Ok-code_in_file.ensures.told refl ∙ c.in-Ok.ensures.told refl

pub returns-in-Err-clause-told : goal.returns-in-Err-clause-told
returns-in-Err-clause-told g c = c.in-Err.ensures.told
