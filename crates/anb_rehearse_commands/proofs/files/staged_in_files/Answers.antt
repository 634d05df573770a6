use Rattle.anb_base.proofs.Moving.{Rose-later}
use Rattle.anb_command.proofs.Failing.{IsFailure-map}
use Rattle.anb_rehearse_commands.proofs.Asking.{company_refused, narration_read, one_of_two, other_of_two, seed_refused, setting_given, values_read, values_refused}
use Rattle.std.proofs.Common.{refl, ◌∙◌}
use Rattle.anb_rehearse_commands.proofs.files.staged_in_files.Goals as goal

pub returns-in-Ok-seed_of-clause-given : goal.returns-in-Ok-seed_of-clause-given
returns-in-Ok-seed_of-clause-given g c =
    let kept = c.company_in_file.ensures.fetches.same_files in
    setting_given (g.F.Shelf.files c.args.shelf.now) c.args.narration.now c.args.values.now c.args.host_seed c.in-Ok.company.protocol c.in-Ok.ensures.given
    c.in-Ok-values_for.fitted (rw kept at c.in-Ok-values_for.ensures.given) c.has_fresh.result c.has_fresh.ensures c.in-Ok-seed_of.seed c.in-Ok-seed_of.ensures.given

pub returns-in-Err-seed_of-clause-refused : goal.returns-in-Err-seed_of-clause-refused
returns-in-Err-seed_of-clause-refused g c =
    let kept = c.company_in_file.ensures.fetches.same_files in
    IsFailure-map c.in-Err-seed_of.status _ _ _ _ (λ file never. absurd never)
    (λ is. seed_refused (g.F.Shelf.files c.args.shelf.now) c.args.narration.now c.args.values.now c.args.host_seed c.in-Ok.company.protocol c.in-Ok.ensures.given
    c.in-Ok-values_for.fitted (rw kept at c.in-Ok-values_for.ensures.given) c.has_fresh.result c.has_fresh.ensures c.in-Err-seed_of.status is) c.in-Err-seed_of.ensures.refused

pub returns-in-Err-values_for-clause-refused : goal.returns-in-Err-values_for-clause-refused
returns-in-Err-values_for-clause-refused g c =
    let kept = c.company_in_file.ensures.fetches in
    let told = g.F.Shelf.files c.args.shelf.now in
    let narration = c.args.narration.now in
    let values = c.args.values.now in
    let p = c.in-Ok.company.protocol in
    IsFailure-map c.in-Err-values_for.status _ _ _ _
    (λ file at. (other_of_two narration values file at.0, Rose-later _ _ _ (kept.never_falls file) at.1, values_read told narration values c.args.host_seed p c.in-Ok.ensures.given file at.0))
    (λ is. values_refused told narration values c.args.host_seed p c.in-Ok.ensures.given c.in-Err-values_for.status is)
    (rw kept.same_files at c.in-Err-values_for.ensures.refused)

pub returns-in-Err-clause-refused : goal.returns-in-Err-clause-refused
returns-in-Err-clause-refused g c =
    let told = g.F.Shelf.files c.args.shelf.now in
    let narration = c.args.narration.now in
    let values = c.args.values.now in
    IsFailure-map c.in-Err.status _ _ _ _
    (λ file at. (one_of_two narration values file at.0, at.1, narration_read told narration values c.args.host_seed file at.0))
    (λ is. company_refused told narration values c.args.host_seed c.in-Err.status is) c.in-Err.ensures.refused

pub returns-in-Ok-seed_of-clause-told : goal.returns-in-Ok-seed_of-clause-told
returns-in-Ok-seed_of-clause-told g c = λ _. c.in-Ok-values_for.ensures.told refl ∙ c.in-Ok.ensures.told refl

pub returns-in-Err-seed_of-clause-told : goal.returns-in-Err-seed_of-clause-told
returns-in-Err-seed_of-clause-told g c = λ _. c.in-Ok-values_for.ensures.told refl ∙ c.in-Ok.ensures.told refl

pub returns-in-Err-values_for-clause-told : goal.returns-in-Err-values_for-clause-told
returns-in-Err-values_for-clause-told g c = λ other. c.in-Err-values_for.ensures.told other ∙ c.in-Ok.ensures.told refl

pub returns-in-Err-clause-told : goal.returns-in-Err-clause-told
returns-in-Err-clause-told g c = c.in-Err.ensures.told
