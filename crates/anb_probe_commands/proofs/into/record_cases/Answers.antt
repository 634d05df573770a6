use Rattle.std.proofs.Common.{List, refl, inl, inr}
use Rattle.anb_probe_commands.specs.Asking.{trying_by}
use Rattle.anb_probe_commands.specs.Keeping.{Goes, Told}
use Rattle.anb_probe_commands.specs.Tasks.{fitted_by, probing_by}
use Rattle.anb_probe_commands.specs.Words.{order_of}
use Rattle.anb_recorded.specs.declared.ended.Missing.TheVariants as missing
use Rattle.anb_probe_commands.proofs.Ending.{over_wanting}
use Rattle.anb_probe_commands.proofs.Kept.{keeps_some}
use Rattle.anb_probe_commands.proofs.Played.{none_left_at_first}
use Rattle.anb_probe_commands.proofs.Told.{missed_made, missed_unmade, never_whole, records_cases}
use Rattle.anb_probe_commands.proofs.into.record_cases.Goals as goal

-- ---- nothing is started for want of memory

pub returns-in_default-clause-comes : goal.returns-in_default-clause-comes
returns-in_default-clause-comes g c = inl (c.wanting.ensures.status, refl, refl)

pub returns-in_default-clause-over : goal.returns-in_default-clause-over
returns-in_default-clause-over g c = rw c.wanting.ensures.status (over_wanting (g.T.Trials.trial c.args.trials.now) (g.W.Wire.state c.args.wire.now))

pub returns-in_default-clause-why_missed : goal.returns-in_default-clause-why_missed
returns-in_default-clause-why_missed g c = rw (c.wanting.ensures.missing, c.wanting.ensures.status) (λ some. absurd (some refl))

pub returns-in_default-clause-fresh : goal.returns-in_default-clause-fresh
returns-in_default-clause-fresh g c = inl (refl, refl)

pub returns-in_default-clause-recorded : goal.returns-in_default-clause-recorded
returns-in_default-clause-recorded g c = λ some whole. absurd (some c.wanting.ensures.status)

pub returns-in_default-clause-none_left : goal.returns-in_default-clause-none_left
returns-in_default-clause-none_left g c = none_left_at_first (g.T.Trials.trial c.args.trials.now) c.requires.untried

pub returns-in-NoMemory-clause-comes : goal.returns-in-NoMemory-clause-comes
returns-in-NoMemory-clause-comes g c = inl (c.wanting-in-NoMemory.ensures.status, refl, refl)

pub returns-in-NoMemory-clause-over : goal.returns-in-NoMemory-clause-over
returns-in-NoMemory-clause-over g c = rw c.wanting-in-NoMemory.ensures.status (over_wanting (g.T.Trials.trial c.args.trials.now) (g.W.Wire.state c.args.wire.now))

pub returns-in-NoMemory-clause-why_missed : goal.returns-in-NoMemory-clause-why_missed
returns-in-NoMemory-clause-why_missed g c = rw (c.wanting-in-NoMemory.ensures.missing, c.wanting-in-NoMemory.ensures.status) (λ some. absurd (some refl))

pub returns-in-NoMemory-clause-fresh : goal.returns-in-NoMemory-clause-fresh
returns-in-NoMemory-clause-fresh g c = inl (refl, refl)

pub returns-in-NoMemory-clause-recorded : goal.returns-in-NoMemory-clause-recorded
returns-in-NoMemory-clause-recorded g c = λ some whole. absurd (some c.wanting-in-NoMemory.ensures.status)

pub returns-in-NoMemory-clause-none_left : goal.returns-in-NoMemory-clause-none_left
returns-in-NoMemory-clause-none_left g c = none_left_at_first (g.T.Trials.trial c.args.trials.now) c.requires.untried

-- ---- a file is there already

pub returns-in-There-clause-comes : goal.returns-in-There-clause-comes
returns-in-There-clause-comes g c = inl (refl, refl, refl)

pub returns-in-There-clause-over : goal.returns-in-There-clause-over
returns-in-There-clause-over g c = over_wanting (g.T.Trials.trial c.args.trials.now) (g.W.Wire.state c.args.wire.now)

pub returns-in-There-clause-why_missed : goal.returns-in-There-clause-why_missed
returns-in-There-clause-why_missed g c = (c.in-There.ensures.0, c.in-There.ensures.1, refl, refl, c.in-There.ensures.2)

pub returns-in-There-clause-fresh : goal.returns-in-There-clause-fresh
returns-in-There-clause-fresh g c = inl (refl, refl)

pub returns-in-There-clause-recorded : goal.returns-in-There-clause-recorded
returns-in-There-clause-recorded g c = λ some whole. absurd (some refl)

pub returns-in-There-clause-none_left : goal.returns-in-There-clause-none_left
returns-in-There-clause-none_left g c = none_left_at_first (g.T.Trials.trial c.args.trials.now) c.requires.untried

-- ---- the values can't be written

pub returns-in-Unwritten-clause-comes : goal.returns-in-Unwritten-clause-comes
returns-in-Unwritten-clause-comes g c = inr c.record_on-in-Unwritten.ensures.comes

pub returns-in-Unwritten-clause-why_missed : goal.returns-in-Unwritten-clause-why_missed
returns-in-Unwritten-clause-why_missed g c =
    let t = c.args.task.now in
    let mid = g.J.Store.state c.open.new.journal in
    let now = g.J.Store.state c.record_on-in-Unwritten.new.journal in
    let r = c.record_on-in-Unwritten.result in
    let kept = keeps_some (probing_by t.protocol t.role t.values t.seed) c.args.prepared.now (order_of (trying_by c.args.trying)) (λ (some : List Told). Goes c.args.folder.now mid now (missing.Unwritten c.in-Unwritten.file) r.missing some)
    (g.T.Trials.trial c.args.trials.now) (g.T.Trials.trial c.record_on-in-Unwritten.new.trials) r.status c.record_on-in-Unwritten.ensures.kept in
    missed_unmade c.args.folder.now c.in-Ok.values (g.J.Store.state c.args.journal.now) mid now (g.W.Wire.state c.args.wire.now) (g.W.Wire.state c.record_on-in-Unwritten.new.wire) r.status r.missing kept.0 c.in-Unwritten.file c.in-Unwritten.ensures.1 c.in-Unwritten.ensures.2 c.in-Unwritten.ensures.3 kept.1

pub returns-in-Unwritten-clause-fresh : goal.returns-in-Unwritten-clause-fresh
returns-in-Unwritten-clause-fresh g c = inr c.in-Unwritten.ensures.0

pub returns-in-Unwritten-clause-recorded : goal.returns-in-Unwritten-clause-recorded
returns-in-Unwritten-clause-recorded g c = λ some whole.
    let t = c.args.task.now in
    let mid = g.J.Store.state c.open.new.journal in
    let now = g.J.Store.state c.record_on-in-Unwritten.new.journal in
    let r = c.record_on-in-Unwritten.result in
    never_whole (probing_by t.protocol t.role t.values t.seed) c.args.prepared.now (order_of (trying_by c.args.trying)) (fitted_by t.values t.file_seed) c.args.folder.now c.in-Ok.values (g.J.Store.state c.args.journal.now) mid now
    (g.T.Trials.trial c.args.trials.now) (g.T.Trials.trial c.record_on-in-Unwritten.new.trials) r.status c.requires.can.few c.in-Unwritten.file r.missing c.record_on-in-Unwritten.ensures.kept whole

-- ---- they are

pub returns-in-Nothing-clause-comes : goal.returns-in-Nothing-clause-comes
returns-in-Nothing-clause-comes g c = inr c.record_on.ensures.comes

pub returns-in-Nothing-clause-why_missed : goal.returns-in-Nothing-clause-why_missed
returns-in-Nothing-clause-why_missed g c =
    let t = c.args.task.now in
    let mid = g.J.Store.state c.open.new.journal in
    let now = g.J.Store.state c.record_on.new.journal in
    let r = c.record_on.result in
    let kept = keeps_some (probing_by t.protocol t.role t.values t.seed) c.args.prepared.now (order_of (trying_by c.args.trying)) (λ (some : List Told). Goes c.args.folder.now mid now missing.Nothing r.missing some)
    (g.T.Trials.trial c.args.trials.now) (g.T.Trials.trial c.record_on.new.trials) r.status c.record_on.ensures.kept in
    missed_made c.args.folder.now c.in-Ok.values (g.J.Store.state c.args.journal.now) mid now (g.W.Wire.state c.args.wire.now) (g.W.Wire.state c.record_on.new.wire) r.status r.missing kept.0 c.in-Nothing.ensures.1 c.in-Nothing.ensures.2 kept.1

pub returns-in-Nothing-clause-fresh : goal.returns-in-Nothing-clause-fresh
returns-in-Nothing-clause-fresh g c = inr c.in-Nothing.ensures.0

pub returns-in-Nothing-clause-recorded : goal.returns-in-Nothing-clause-recorded
returns-in-Nothing-clause-recorded g c = λ some whole.
    let t = c.args.task.now in
    let r = c.record_on.result in
    records_cases (probing_by t.protocol t.role t.values t.seed) c.args.prepared.now (order_of (trying_by c.args.trying)) (fitted_by t.values t.file_seed) c.args.folder.now c.in-Ok.values (g.J.Store.state c.args.journal.now) (g.J.Store.state c.open.new.journal) (g.J.Store.state c.record_on.new.journal)
    (g.T.Trials.trial c.args.trials.now) (g.T.Trials.trial c.record_on.new.trials) r.status c.requires.can.few c.in-Ok.ensures c.in-Nothing.ensures.1 some (rw whole at c.record_on.ensures.kept)
