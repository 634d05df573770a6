use Rattle.std.proofs.Common.{Option, refl, subst, inl, inr, ◌∙◌}
use Rattle.anb_base.proofs.Moving.{Rose-later}
use Rattle.anb_command.specs.Fetches.{Files, IfTold}
use Rattle.anb_command.specs.Steps.{given, refused}
use Rattle.anb_park_commands.specs.Keys.{KeyIs}
use Rattle.anb_park_commands.specs.Records.{RecordIs}
use Rattle.anb_command.proofs.Failing.{IsFailure-map}
use Rattle.anb_command.proofs.Chains.{told_map}
use Rattle.anb_command.proofs.Preparing.{told_both}
use Rattle.anb_park_commands.proofs.Chains.{file_refused}
use Rattle.anb_park_commands.proofs.resuming.wake.Goals as goal

pub returns-in-Err-clause-refused : goal.returns-in-Err-clause-refused
returns-in-Err-clause-refused g c =
    let told = g.F.Shelf.files c.args.shelf.now in
    let s = c.in-Err.status in
    IsFailure-map s _ _ _ _ (λ file at. (inl at.0, at.1)) (λ is. told_map told (λ files f. inl (s, f, refl)) (file_refused told c.args.words.parked.now _ s is)) c.in-Err.ensures.err

pub returns-in-Err-key_in_file-clause-refused : goal.returns-in-Err-key_in_file-clause-refused
returns-in-Err-key_in_file-clause-refused g c =
    let told = g.F.Shelf.files c.args.shelf.now in
    let kept = c.fetch_file.ensures.fetches in
    let s = c.in-Err-key_in_file.status in
    IsFailure-map s _ _ _ _
    (λ file at. (inr (at.0, told_map told (λ files f. (c.in-Ok.parked, f)) c.in-Ok.ensures.file), Rose-later _ _ _ (kept.never_falls file) at.1))
    (λ is. told_both told (λ files f k. inr (c.in-Ok.parked, f, inl (s, k, refl))) c.in-Ok.ensures.file is)
    (rw kept.same_files at c.in-Err-key_in_file.ensures.refused)

pub returns-clause-refused : goal.returns-clause-refused
returns-clause-refused g c =
    let told = g.F.Shelf.files c.args.shelf.now in
    let role = c.args.owner.now in
    let kept = c.fetch_file.ensures.fetches.same_files in
    let s = c.in-Err-live_in.status in
    let key = c.in-Ok-key_in_file.key in
    IsFailure-map s _ _ _ _ (λ file never. absurd never)
    (λ (why : RecordIs role.playable.protocol role.playable.role role.id key c.in-Ok.parked (refused s)).
    told_both told (λ files f k. inr (c.in-Ok.parked, f, inr (key, k, why))) c.in-Ok.ensures.file
    (subst (λ (t : Option Files). IfTold t (λ files. KeyIs files c.args.words.key.now (given key))) kept c.in-Ok-key_in_file.ensures.given))
    (rw (c.as_slice.ensures, c.as_slice-2.ensures) at c.in-Err-live_in.ensures.refused)

pub returns-in-Ok-live_in-clause-told : goal.returns-in-Ok-live_in-clause-told
returns-in-Ok-live_in-clause-told g c = λ _. c.in-Ok-key_in_file.ensures.told refl ∙ c.in-Ok.ensures.told refl

pub returns-in-Err-key_in_file-clause-told : goal.returns-in-Err-key_in_file-clause-told
returns-in-Err-key_in_file-clause-told g c = λ other. c.in-Err-key_in_file.ensures.told other ∙ c.in-Ok.ensures.told refl

pub returns-clause-told : goal.returns-clause-told
returns-clause-told g c = λ _. c.in-Ok-key_in_file.ensures.told refl ∙ c.in-Ok.ensures.told refl

pub returns-in-Err-clause-told : goal.returns-in-Err-clause-told
returns-in-Err-clause-told g c = c.in-Err.ensures.told
