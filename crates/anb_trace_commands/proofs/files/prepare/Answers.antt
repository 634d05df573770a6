use Rattle.std.proofs.Common.{inl, inr, refl, ◌∙◌}
use Rattle.anb_base.proofs.Moving.{Rose-later}
use Rattle.anb_command.specs.Roles.{Part}
use Rattle.anb_command.proofs.Chains.{told_map}
use Rattle.anb_command.proofs.Failing.{IsFailure-map}
use Rattle.anb_role_commands.proofs.Preparing.{job_refused, narration_read, part_refused, role_refused, values_read}
use Rattle.anb_role_commands.proofs.Replaying.{play_refused, third_of_three}
use Rattle.anb_trace_commands.proofs.Asking.{lines_read, lines_refused, traceable}
use Rattle.anb_trace_commands.proofs.files.prepare.Goals as goal

pub returns-in-Ok-transcript_in_file-clause-ready : goal.returns-in-Ok-transcript_in_file-clause-ready
returns-in-Ok-transcript_in_file-clause-ready g c =
    let words = c.args.words in
    let told = g.F.Shelf.files c.args.shelf.now in
    let playable = c.in-Ok.playable in
    let p = c.in-Ok-prepare_code.prepared in
    let first = c.playable_in_file.ensures.fetches.same_files in
    let next = c.prepare_code.ensures.fetches.same_files in
    let errand = c.in-Ok-prepare_code.ensures in
    let lines = c.in-Ok-transcript_in_file.ensures in
    traceable words.narration.now words.name.now words.values.now words.transcript.now c.args.host_seed told playable.protocol playable.role
    playable.code p.code p.initial p.seed c.in-Ok.ensures.fits errand.same c.in-Ok.ensures.given (rw first at errand.given)
    c.fitting_codes_play.ensures errand.takes errand.bytes c.in-Ok-transcript_in_file.transcript lines.bytes
    (rw first at (rw next at lines.given))

pub returns-in-Err-clause-refused : goal.returns-in-Err-clause-refused
returns-in-Err-clause-refused g c =
    let words = c.args.words in
    let told = g.F.Shelf.files c.args.shelf.now in
    let s = c.in-Err.status in
    IsFailure-map s _ _ _ _
    (λ file at. (inl at.0, at.1, told_map told (λ files read. inl read) (narration_read told words.narration.now words.name.now words.values.now c.args.host_seed file at.0)))
    (λ is. play_refused words.narration.now words.name.now words.values.now words.transcript.now c.args.host_seed told s
    (part_refused told words.narration.now words.name.now words.values.now c.args.host_seed s is))
    c.in-Err.ensures.refused

pub returns-in-Err-prepare_code-clause-refused : goal.returns-in-Err-prepare_code-clause-refused
returns-in-Err-prepare_code-clause-refused g c =
    let words = c.args.words in
    let told = g.F.Shelf.files c.args.shelf.now in
    let playable = c.in-Ok.playable in
    let part : Part = record { protocol = playable.protocol; role = playable.role } in
    let kept = c.playable_in_file.ensures.fetches in
    let s = c.in-Err-prepare_code.status in
    IsFailure-map s _ _ _ _
    (λ file at. (
      inr (inl at.0),
      Rose-later _ _ _ (kept.never_falls file) at.1,
      told_map told (λ files read. inl read) (values_read told words.narration.now words.name.now words.values.now c.args.host_seed part file c.in-Ok.ensures.given at.0),
    ))
    (λ is. play_refused words.narration.now words.name.now words.values.now words.transcript.now c.args.host_seed told s
    (job_refused told words.narration.now words.name.now words.values.now c.args.host_seed part s c.in-Ok.ensures.given
    (role_refused words.values.now c.args.host_seed playable.protocol playable.role playable.code c.in-Ok.ensures.fits told s is)))
    (rw kept.same_files at c.in-Err-prepare_code.ensures.refused)

pub returns-in-Err-transcript_in_file-clause-refused : goal.returns-in-Err-transcript_in_file-clause-refused
returns-in-Err-transcript_in_file-clause-refused g c =
    let words = c.args.words in
    let told = g.F.Shelf.files c.args.shelf.now in
    let playable = c.in-Ok.playable in
    let p = c.in-Ok-prepare_code.prepared in
    let errand = c.in-Ok-prepare_code.ensures in
    let kept = c.playable_in_file.ensures.fetches in
    let next = c.prepare_code.ensures.fetches in
    let s = c.in-Err-transcript_in_file.status in
    IsFailure-map s _ _ _ _
    (λ file at. (
      third_of_three words.narration.now words.values.now words.transcript.now file at.0,
      Rose-later _ _ _ (kept.never_falls file) (Rose-later _ _ _ (next.never_falls file) at.1),
      lines_read words.narration.now words.name.now words.values.now words.transcript.now c.args.host_seed told playable.protocol playable.role
          playable.code p.code p.initial p.seed c.in-Ok.ensures.fits errand.same c.in-Ok.ensures.given (rw kept.same_files at errand.given) file at.0,
    ))
    (λ is. lines_refused words.narration.now words.name.now words.values.now words.transcript.now c.args.host_seed told playable.protocol playable.role
    playable.code p.code p.initial p.seed c.in-Ok.ensures.fits errand.same c.in-Ok.ensures.given (rw kept.same_files at errand.given) s is)
    (rw kept.same_files at (rw next.same_files at c.in-Err-transcript_in_file.ensures.refused))

pub returns-in-Ok-transcript_in_file-clause-told : goal.returns-in-Ok-transcript_in_file-clause-told
returns-in-Ok-transcript_in_file-clause-told g c = λ _. c.in-Ok-transcript_in_file.ensures.told refl ∙ c.in-Ok-prepare_code.ensures.told refl ∙ c.in-Ok.ensures.told refl

pub returns-in-Err-transcript_in_file-clause-told : goal.returns-in-Err-transcript_in_file-clause-told
returns-in-Err-transcript_in_file-clause-told g c = λ other. c.in-Err-transcript_in_file.ensures.told other ∙ c.in-Ok-prepare_code.ensures.told refl ∙ c.in-Ok.ensures.told refl

pub returns-in-Err-prepare_code-clause-told : goal.returns-in-Err-prepare_code-clause-told
returns-in-Err-prepare_code-clause-told g c = λ other. c.in-Err-prepare_code.ensures.told other ∙ c.in-Ok.ensures.told refl

pub returns-in-Err-clause-told : goal.returns-in-Err-clause-told
returns-in-Err-clause-told g c = c.in-Err.ensures.told
