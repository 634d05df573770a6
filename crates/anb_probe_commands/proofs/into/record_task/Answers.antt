use Rattle.std.proofs.Common.{ℕ, List, refl, inl, inr, subst}
use Rattle.anb_recording.specs.Joining.{others_still}
use Rattle.anb_probe_commands.specs.Asking.{trying_by}
use Rattle.anb_probe_commands.specs.Playing.{TaskComesTo}
use Rattle.anb_probe_commands.specs.Records.{IsOfRecord}
use Rattle.anb_probe_commands.specs.Tasks.{agenda_by, fitted_by, probing_by}
use Rattle.anb_probe_commands.proofs.Ending.{over_refused, over_wanting}
use Rattle.anb_probe_commands.proofs.Played.{none_left_at_first}
use Rattle.anb_probe_commands.proofs.Told.{cases_come, cases_late, never_recorded, records_task, refused_before}
use Rattle.anb_probe_commands.proofs.into.record_task.Goals as goal

pub returns-in-Ok-prepare-clause-comes : goal.returns-in-Ok-prepare-clause-comes
returns-in-Ok-prepare-clause-comes g c =
    let t = c.args.task.now in
    subst (λ (n : List ℕ). TaskComesTo (probing_by t.protocol t.role t.values t.seed) (trying_by c.args.words.trying) n (g.T.Trials.trial c.args.trials.now) (g.T.Trials.trial c.record_cases.new.trials)
    (g.W.Wire.state c.args.wire.now) (g.W.Wire.state c.record_cases.new.wire) c.record_cases.result.status) c.in-Ok.ensures
    (cases_come (probing_by t.protocol t.role t.values t.seed) (trying_by c.args.words.trying) c.in-Ok-prepare.prepared c.in-Ok-prepare.ensures.prepared c.in-Ok.name (g.T.Trials.trial c.args.trials.now) (g.T.Trials.trial c.record_cases.new.trials)
    (g.W.Wire.state c.args.wire.now) (g.W.Wire.state c.record_cases.new.wire) c.record_cases.result.status c.record_cases.ensures.comes)

pub returns-in-Ok-prepare-clause-leaves : goal.returns-in-Ok-prepare-clause-leaves
returns-in-Ok-prepare-clause-leaves g c = λ early.
    let t = c.args.task.now in
    cases_late (probing_by t.protocol t.role t.values t.seed) (trying_by c.args.words.trying) (agenda_by c.in-Ok-prepare.prepared) c.in-Ok.name (g.T.Trials.trial c.args.trials.now) (g.T.Trials.trial c.record_cases.new.trials)
    (g.W.Wire.state c.args.wire.now) (g.W.Wire.state c.record_cases.new.wire) c.record_cases.result.status c.record_cases.ensures.comes early

pub returns-in-Ok-prepare-clause-recorded : goal.returns-in-Ok-prepare-clause-recorded
returns-in-Ok-prepare-clause-recorded g c = λ late some whole.
    let t = c.args.task.now in
    records_task (probing_by t.protocol t.role t.values t.seed) (trying_by c.args.words.trying) c.in-Ok-prepare.prepared c.in-Ok-prepare.ensures.prepared (fitted_by t.values t.file_seed) c.args.folder.now
    (g.J.Store.state c.args.journal.now) (g.J.Store.state c.record_cases.new.journal) (g.T.Trials.trial c.args.trials.now) (g.T.Trials.trial c.record_cases.new.trials) c.record_cases.result.status (c.record_cases.ensures.recorded some whole)

pub returns-in-Err-clause-comes : goal.returns-in-Err-clause-comes
returns-in-Err-clause-comes g c = inl (c.in-Err.ensures.refused, refl, refl)

pub returns-in-Err-clause-over : goal.returns-in-Err-clause-over
returns-in-Err-clause-over g c =
    let t = c.args.task.now in
    over_refused (probing_by t.protocol t.role t.values t.seed) (trying_by c.args.words.trying) (g.T.Trials.trial c.args.trials.now) (g.W.Wire.state c.args.wire.now) c.in-Err.status c.in-Err.ensures.refused

pub returns-in-Err-clause-why_missed : goal.returns-in-Err-clause-why_missed
returns-in-Err-clause-why_missed g c = λ some. (refl, others_still (IsOfRecord c.args.folder.now) (g.J.Store.state c.args.journal.now))

pub returns-in-Err-clause-fresh : goal.returns-in-Err-clause-fresh
returns-in-Err-clause-fresh g c = inl (refl, refl)

pub returns-in-Err-clause-recorded : goal.returns-in-Err-clause-recorded
returns-in-Err-clause-recorded g c = λ late some whole.
    let t = c.args.task.now in
    never_recorded c.in-Err.status (refused_before (probing_by t.protocol t.role t.values t.seed) (trying_by c.args.words.trying) c.in-Err.status c.in-Err.ensures.refused) late some

pub returns-in-Err-clause-none_left : goal.returns-in-Err-clause-none_left
returns-in-Err-clause-none_left g c = none_left_at_first (g.T.Trials.trial c.args.trials.now) c.requires.untried

pub returns-in_default-clause-comes : goal.returns-in_default-clause-comes
returns-in_default-clause-comes g c = inl (inr c.wanting.ensures.status, refl, refl)

pub returns-in_default-clause-over : goal.returns-in_default-clause-over
returns-in_default-clause-over g c = rw c.wanting.ensures.status (over_wanting (g.T.Trials.trial c.args.trials.now) (g.W.Wire.state c.args.wire.now))

pub returns-in_default-clause-why_missed : goal.returns-in_default-clause-why_missed
returns-in_default-clause-why_missed g c = rw (c.wanting.ensures.missing, c.wanting.ensures.status) (λ some. (refl, others_still (IsOfRecord c.args.folder.now) (g.J.Store.state c.args.journal.now)))

pub returns-in_default-clause-fresh : goal.returns-in_default-clause-fresh
returns-in_default-clause-fresh g c = inl (refl, refl)

pub returns-in_default-clause-recorded : goal.returns-in_default-clause-recorded
returns-in_default-clause-recorded g c = λ late some whole. absurd (some c.wanting.ensures.status)

pub returns-in_default-clause-none_left : goal.returns-in_default-clause-none_left
returns-in_default-clause-none_left g c = none_left_at_first (g.T.Trials.trial c.args.trials.now) c.requires.untried
