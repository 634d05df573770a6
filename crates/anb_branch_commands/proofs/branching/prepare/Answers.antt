use Rattle.std.proofs.Common.{inl, inr, refl, ◌∙◌}
use Rattle.anb_base.proofs.Moving.{Rose-later}
use Rattle.anb_choice.specs.Views.{branched_of}
use Rattle.anb_command.proofs.Failing.{IsFailure-map}
use Rattle.anb_branch_commands.proofs.Preparing.{job_answers, narration_read, no_branch, no_seat, values_read}
use Rattle.anb_branch_commands.proofs.branching.prepare.Goals as goal

pub returns-in-Err-clause-refused : goal.returns-in-Err-clause-refused
returns-in-Err-clause-refused g c =
    let told = g.F.Shelf.files c.args.shelf.now in
    let words = c.args.words in
    let play = words.play in
    IsFailure-map c.in-Err.status _ _ _ _
    (λ file at. (inl at.0, at.1, narration_read told play.narration.now play.name.now play.values.now words.told c.args.host_seed file at.0))
    (λ is. no_branch told play.narration.now play.name.now play.values.now words.told c.args.host_seed c.in-Err.status is) c.in-Err.ensures.refused

pub returns-in-Err-codes_for-clause-refused : goal.returns-in-Err-codes_for-clause-refused
returns-in-Err-codes_for-clause-refused g c =
    let told = g.F.Shelf.files c.args.shelf.now in
    let words = c.args.words in
    let play = words.play in
    let s = c.in-Err-codes_for.status in
    IsFailure-map s _ _ _ _ (λ file never. absurd never)
    (λ is. no_seat told play.narration.now play.name.now play.values.now words.told c.args.host_seed (branched_of c.in-Ok.branched) s c.in-Ok.ensures.given is) c.in-Err-codes_for.ensures.refused

pub returns-in-Ok-means_in_file-clause-given : goal.returns-in-Ok-means_in_file-clause-given
returns-in-Ok-means_in_file-clause-given g c =
    let told = g.F.Shelf.files c.args.shelf.now in
    let words = c.args.words in
    let play = words.play in
    let b = branched_of c.in-Ok.branched in
    job_answers told play.narration.now play.name.now play.values.now words.told c.args.host_seed b _ c.in-Ok.ensures.given c.in-Ok-codes_for.ensures.given
    (rw c.branch_in_file.ensures.fetches.same_files at c.in-Ok-means_in_file.ensures.given)

pub returns-in-Err-means_in_file-clause-refused : goal.returns-in-Err-means_in_file-clause-refused
returns-in-Err-means_in_file-clause-refused g c =
    let told = g.F.Shelf.files c.args.shelf.now in
    let words = c.args.words in
    let play = words.play in
    let b = branched_of c.in-Ok.branched in
    let kept = c.branch_in_file.ensures.fetches in
    let s = c.in-Err-means_in_file.status in
    IsFailure-map s _ _ _ _
    (λ file at. (
      inr (inl at.0),
      Rose-later _ _ _ (kept.never_falls file) at.1,
      values_read told play.narration.now play.name.now play.values.now words.told c.args.host_seed b file c.in-Ok.ensures.given c.in-Ok-codes_for.ensures.given at.0,
    ))
    (λ is. job_answers told play.narration.now play.name.now play.values.now words.told c.args.host_seed b _ c.in-Ok.ensures.given c.in-Ok-codes_for.ensures.given is)
    (rw kept.same_files at c.in-Err-means_in_file.ensures.refused)

pub returns-in-Ok-means_in_file-clause-told : goal.returns-in-Ok-means_in_file-clause-told
returns-in-Ok-means_in_file-clause-told g c = λ _. c.in-Ok-means_in_file.ensures.told refl ∙ c.in-Ok.ensures.told refl

pub returns-in-Err-means_in_file-clause-told : goal.returns-in-Err-means_in_file-clause-told
returns-in-Err-means_in_file-clause-told g c = λ other. c.in-Err-means_in_file.ensures.told other ∙ c.in-Ok.ensures.told refl

pub returns-in-Err-codes_for-clause-told : goal.returns-in-Err-codes_for-clause-told
returns-in-Err-codes_for-clause-told g c = λ _. c.in-Ok.ensures.told refl

pub returns-in-Err-clause-told : goal.returns-in-Err-clause-told
returns-in-Err-clause-told g c = c.in-Err.ensures.told
