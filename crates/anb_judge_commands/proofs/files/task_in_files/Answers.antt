use Rattle.std.proofs.Common.{inl, inr, refl, ◌∙◌}
use Rattle.anb_base.proofs.Moving.{Rose-later}
use Rattle.anb_command.specs.Roles.{Part}
use Rattle.anb_command.proofs.Failing.{IsFailure-map}
use Rattle.anb_judge_commands.proofs.Reading.{initial_refused, lines_refused, narration_read, part_refused, task_given, transcript_read, values_read}
use Rattle.anb_judge_commands.proofs.files.task_in_files.Goals as goal

pub returns-in-Err-clause-refused : goal.returns-in-Err-clause-refused
returns-in-Err-clause-refused g c =
    let words = c.args.words in
    let told = g.F.Shelf.files c.args.shelf.now in
    IsFailure-map c.in-Err.status _ _ _ _
    (λ file at. (inl at.0, at.1, narration_read words.narration.now words.name.now words.values.now words.transcript.now told file at.0))
    (λ is. part_refused words.narration.now words.name.now words.values.now words.transcript.now told c.in-Err.status is)
    c.in-Err.ensures.refused

pub returns-in-Err-initial_in_file-clause-refused : goal.returns-in-Err-initial_in_file-clause-refused
returns-in-Err-initial_in_file-clause-refused g c =
    let words = c.args.words in
    let told = g.F.Shelf.files c.args.shelf.now in
    let kept = c.playable_in_file.ensures.fetches in
    let playable = c.in-Ok.playable in
    let part : Part = record { protocol = playable.protocol; role = playable.role } in
    IsFailure-map c.in-Err-initial_in_file.status _ _ _ _
    (λ file at. (
      inr (inl at.0),
      Rose-later _ _ _ (kept.never_falls file) at.1,
      values_read words.narration.now words.name.now words.values.now words.transcript.now told part c.in-Ok.ensures.given file at.0,
    ))
    (λ is. initial_refused words.narration.now words.name.now words.values.now words.transcript.now told part c.in-Ok.ensures.given c.in-Err-initial_in_file.status is)
    (rw kept.same_files at c.in-Err-initial_in_file.ensures.refused)

pub returns-clause-refused : goal.returns-clause-refused
returns-clause-refused g c =
    let words = c.args.words in
    let told = g.F.Shelf.files c.args.shelf.now in
    let first = c.playable_in_file.ensures.fetches in
    let second = c.initial_in_file.ensures.fetches in
    let playable = c.in-Ok.playable in
    let part : Part = record { protocol = playable.protocol; role = playable.role } in
    let initial = c.in-Ok-initial_in_file.initial.items in
    let begins = rw first.same_files at c.in-Ok-initial_in_file.ensures.given in
    IsFailure-map c.in-Err-lines_in_file.status _ _ _ _
    (λ file at. (
      inr (inr (inl at.0)),
      Rose-later _ _ _ (first.never_falls file) (Rose-later _ _ _ (second.never_falls file) at.1),
      transcript_read words.narration.now words.name.now words.values.now words.transcript.now told part c.in-Ok.ensures.given initial begins file at.0,
    ))
    (λ is. lines_refused words.narration.now words.name.now words.values.now words.transcript.now told part c.in-Ok.ensures.given initial begins c.in-Err-lines_in_file.status is)
    (rw first.same_files at (rw second.same_files at c.in-Err-lines_in_file.ensures.refused))

pub returns-in-Ok-lines_in_file-clause-given : goal.returns-in-Ok-lines_in_file-clause-given
returns-in-Ok-lines_in_file-clause-given g c =
    let words = c.args.words in
    let told = g.F.Shelf.files c.args.shelf.now in
    let first = c.playable_in_file.ensures.fetches in
    let second = c.initial_in_file.ensures.fetches in
    let playable = c.in-Ok.playable in
    let part : Part = record { protocol = playable.protocol; role = playable.role } in
    task_given words.narration.now words.name.now words.values.now words.transcript.now told part c.in-Ok.ensures.given c.in-Ok-initial_in_file.initial.items
    (rw first.same_files at c.in-Ok-initial_in_file.ensures.given) c.in-Ok-lines_in_file.transcript (rw first.same_files at (rw second.same_files at c.in-Ok-lines_in_file.ensures.given))

pub returns-in-Ok-lines_in_file-clause-ready : goal.returns-in-Ok-lines_in_file-clause-ready
returns-in-Ok-lines_in_file-clause-ready g c = record {
  role = c.in-Ok.ensures.within;
  count = c.in-Ok-initial_in_file.ensures.count;
  bytes = c.in-Ok-initial_in_file.ensures.bytes;
  short = c.in-Ok-initial_in_file.ensures.short;
  few = c.in-Ok-lines_in_file.ensures.few;
  lines = c.in-Ok-lines_in_file.ensures.lines;
}

pub returns-in-Err-clause-told : goal.returns-in-Err-clause-told
returns-in-Err-clause-told g c = c.in-Err.ensures.told

pub returns-in-Err-initial_in_file-clause-told : goal.returns-in-Err-initial_in_file-clause-told
returns-in-Err-initial_in_file-clause-told g c = λ other. c.in-Err-initial_in_file.ensures.told other ∙ c.in-Ok.ensures.told refl

pub returns-clause-told : goal.returns-clause-told
returns-clause-told g c = λ other. c.in-Err-lines_in_file.ensures.told other ∙ c.in-Ok-initial_in_file.ensures.told refl ∙ c.in-Ok.ensures.told refl

pub returns-in-Ok-lines_in_file-clause-told : goal.returns-in-Ok-lines_in_file-clause-told
returns-in-Ok-lines_in_file-clause-told g c = λ _. c.in-Ok-lines_in_file.ensures.told refl ∙ c.in-Ok-initial_in_file.ensures.told refl ∙ c.in-Ok.ensures.told refl
