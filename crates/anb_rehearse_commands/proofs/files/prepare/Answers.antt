use Rattle.anb_command.proofs.Failing.{IsFailure-map}
use Rattle.anb_base.proofs.Moving.{Rose-later}
use Rattle.anb_rehearse_commands.specs.Telling.{setting_by}
use Rattle.anb_rehearse_commands.proofs.Asking.{earlier_read, rehearsal_given, schedule_read, schedule_refused, setting_refused, third_of_three, two_of_three}
use Rattle.std.proofs.Common.{refl, ◌∙◌}
use Rattle.anb_rehearse_commands.proofs.files.prepare.Goals as goal

pub returns-in-Ok-schedule_in_file-clause-given : goal.returns-in-Ok-schedule_in_file-clause-given
returns-in-Ok-schedule_in_file-clause-given g c =
    let kept = c.staged_in_files.ensures.fetches.same_files in
    let words = c.args.words in
    let s = c.in-Ok.staged in
    rehearsal_given (g.F.Shelf.files c.args.shelf.now) words.narration.now words.values.now c.args.host_seed words.schedule.now (setting_by s.protocol s.values s.seed) c.in-Ok.ensures.given
    c.in-Ok-schedule_in_file.turns.items (rw kept at c.in-Ok-schedule_in_file.ensures.given)

pub returns-in-Ok-schedule_in_file-clause-ready : goal.returns-in-Ok-schedule_in_file-clause-ready
returns-in-Ok-schedule_in_file-clause-ready g c = record {
  fit = c.in-Ok.ensures.fit;
  sendable = c.in-Ok.ensures.sendable;
  count = c.in-Ok.ensures.count;
  bytes = c.in-Ok.ensures.bytes;
  short = c.in-Ok.ensures.short;
  roles = c.in-Ok-schedule_in_file.ensures.roles;
  few = c.in-Ok-schedule_in_file.ensures.few;
}

pub returns-in-Err-schedule_in_file-clause-refused : goal.returns-in-Err-schedule_in_file-clause-refused
returns-in-Err-schedule_in_file-clause-refused g c =
    let kept = c.staged_in_files.ensures.fetches in
    let words = c.args.words in
    let told = g.F.Shelf.files c.args.shelf.now in
    let s = c.in-Ok.staged in
    let setting = setting_by s.protocol s.values s.seed in
    IsFailure-map c.in-Err-schedule_in_file.status _ _ _ _
    (λ file at. (
      third_of_three words.narration.now words.values.now words.schedule.now file at.0,
      Rose-later _ _ _ (kept.never_falls file) at.1,
      schedule_read told words.narration.now words.values.now c.args.host_seed words.schedule.now setting c.in-Ok.ensures.given file at.0,
    ))
    (λ is. schedule_refused told words.narration.now words.values.now c.args.host_seed words.schedule.now setting c.in-Ok.ensures.given c.in-Err-schedule_in_file.status is)
    (rw kept.same_files at c.in-Err-schedule_in_file.ensures.refused)

pub returns-in-Err-clause-refused : goal.returns-in-Err-clause-refused
returns-in-Err-clause-refused g c =
    let words = c.args.words in
    let told = g.F.Shelf.files c.args.shelf.now in
    IsFailure-map c.in-Err.status _ _ _ _
    (λ file at. (
      two_of_three words.narration.now words.values.now words.schedule.now file at.0,
      at.1,
      earlier_read told words.narration.now words.values.now c.args.host_seed words.schedule.now file at.2,
    ))
    (λ is. setting_refused told words.narration.now words.values.now c.args.host_seed words.schedule.now c.in-Err.status is) c.in-Err.ensures.refused

pub returns-in-Ok-schedule_in_file-clause-told : goal.returns-in-Ok-schedule_in_file-clause-told
returns-in-Ok-schedule_in_file-clause-told g c = λ _. c.in-Ok-schedule_in_file.ensures.told refl ∙ c.in-Ok.ensures.told refl

pub returns-in-Err-schedule_in_file-clause-told : goal.returns-in-Err-schedule_in_file-clause-told
returns-in-Err-schedule_in_file-clause-told g c = λ other. c.in-Err-schedule_in_file.ensures.told other ∙ c.in-Ok.ensures.told refl

pub returns-in-Err-clause-told : goal.returns-in-Err-clause-told
returns-in-Err-clause-told g c = c.in-Err.ensures.told
