use Rattle.std.proofs.Common.{inl, refl, ◌∙◌}
use Rattle.anb_base.proofs.Moving.{Rose-later}
use Rattle.anb_command.proofs.Chains.{told_map}
use Rattle.anb_command.proofs.Failing.{IsFailure-map}
use Rattle.anb_role_commands.proofs.Replaying.{comparison_ready, play_refused, third_of_three, transcript_read, transcript_refused, two_of_three}
use Rattle.anb_role_commands.proofs.role_replay.prepare_comparison.Goals as goal

pub returns-in-Ok-transcript_in_file-clause-ready : goal.returns-in-Ok-transcript_in_file-clause-ready
returns-in-Ok-transcript_in_file-clause-ready g c =
    let kept = c.prepare.ensures.fetches.same_files in
    let words = c.args.words in
    let p = c.in-Ok.prepared in
    comparison_ready words.narration.now words.name.now words.values.now words.transcript.now c.args.host_seed (g.F.Shelf.files c.args.shelf.now) p.code p.initial p.seed c.in-Ok-transcript_in_file.transcript
    c.in-Ok-transcript_in_file.ensures.bytes c.in-Ok.ensures.sessions (rw kept at c.in-Ok-transcript_in_file.ensures.given)

pub returns-in-Err-transcript_in_file-clause-refused : goal.returns-in-Err-transcript_in_file-clause-refused
returns-in-Err-transcript_in_file-clause-refused g c =
    let kept = c.prepare.ensures.fetches in
    let words = c.args.words in
    let p = c.in-Ok.prepared in
    let told = g.F.Shelf.files c.args.shelf.now in
    IsFailure-map c.in-Err-transcript_in_file.status _ _ _ _
    (λ file at. (
      third_of_three words.narration.now words.values.now words.transcript.now file at.0,
      Rose-later _ _ _ (kept.never_falls file) at.1,
      transcript_read words.narration.now words.name.now words.values.now words.transcript.now c.args.host_seed told p.code p.initial p.seed file c.in-Ok.ensures.sessions at.0,
    ))
    (λ is. transcript_refused words.narration.now words.name.now words.values.now words.transcript.now c.args.host_seed told p.code p.initial p.seed c.in-Err-transcript_in_file.status c.in-Ok.ensures.sessions is)
    (rw kept.same_files at c.in-Err-transcript_in_file.ensures.refused)

pub returns-in-Err-clause-refused : goal.returns-in-Err-clause-refused
returns-in-Err-clause-refused g c =
    let words = c.args.words in
    let told = g.F.Shelf.files c.args.shelf.now in
    IsFailure-map c.in-Err.status _ _ _ _
    (λ file at. (two_of_three words.narration.now words.values.now words.transcript.now file at.0, at.1, told_map told (λ files read. inl read) at.2))
    (λ is. play_refused words.narration.now words.name.now words.values.now words.transcript.now c.args.host_seed told c.in-Err.status is)
    c.in-Err.ensures.refused

pub returns-in-Ok-transcript_in_file-clause-told : goal.returns-in-Ok-transcript_in_file-clause-told
returns-in-Ok-transcript_in_file-clause-told g c = λ _. c.in-Ok-transcript_in_file.ensures.told refl ∙ c.in-Ok.ensures.told refl

pub returns-in-Err-transcript_in_file-clause-told : goal.returns-in-Err-transcript_in_file-clause-told
returns-in-Err-transcript_in_file-clause-told g c = λ other. c.in-Err-transcript_in_file.ensures.told other ∙ c.in-Ok.ensures.told refl

pub returns-in-Err-clause-told : goal.returns-in-Err-clause-told
returns-in-Err-clause-told g c = c.in-Err.ensures.told
