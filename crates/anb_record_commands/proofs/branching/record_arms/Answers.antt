use Rattle.std.proofs.Common.{true, sym, ap, refl, inl, inr}
use Rattle.anb_choice.specs.Views.{branched_of}
use Rattle.anb_branch.specs.Taken.{run_taken}
use Rattle.anb_store.specs.Stores.{StoreState}
use Rattle.anb_command.proofs.OverWire.{no_memory, runs_nowhere}
use Rattle.anb_command.proofs.Prompt.{prompt_nowhere}
use Rattle.anb_record_commands.proofs.Arms.{arm_in_folder}
use Rattle.anb_record_commands.proofs.Holding.{begun_alone}
use Rattle.anb_record_commands.proofs.Recorded.{missing_in_folder}
use Rattle.anb_record_commands.proofs.branching.record_arms.Goals as goal

-- ---- nothing is run

pub returns-in-Err-clause-runs : goal.returns-in-Err-clause-runs
returns-in-Err-clause-runs g c =
    let p = c.args.prepared.now in
    let R = run_taken (branched_of p.branched) c.args.words.play.name.now c.args.words.told p.means.initial p.means.seed p.codes.items in
    runs_nowhere R (g.W.Wire.state c.args.wire.now)

pub returns-in-Err-clause-prompt : goal.returns-in-Err-clause-prompt
returns-in-Err-clause-prompt g c =
    let p = c.args.prepared.now in
    let R = run_taken (branched_of p.branched) c.args.words.play.name.now c.args.words.told p.means.initial p.means.seed p.codes.items in
    prompt_nowhere R (g.W.Wire.state c.args.wire.now) (g.W.Wire.state c.args.wire.now) refl refl

pub returns-in-Err-clause-wire : goal.returns-in-Err-clause-wire
returns-in-Err-clause-wire g c = no_memory _ true (g.W.Wire.state c.args.wire.now)

pub returns-in-Err-clause-recorded : goal.returns-in-Err-clause-recorded
returns-in-Err-clause-recorded g c = λ after whole. absurd (cc)

pub returns-in-There-clause-runs : goal.returns-in-There-clause-runs
returns-in-There-clause-runs g c =
    let p = c.args.prepared.now in
    let R = run_taken (branched_of p.branched) c.args.words.play.name.now c.args.words.told p.means.initial p.means.seed p.codes.items in
    runs_nowhere R (g.W.Wire.state c.args.wire.now)

pub returns-in-There-clause-prompt : goal.returns-in-There-clause-prompt
returns-in-There-clause-prompt g c =
    let p = c.args.prepared.now in
    let R = run_taken (branched_of p.branched) c.args.words.play.name.now c.args.words.told p.means.initial p.means.seed p.codes.items in
    prompt_nowhere R (g.W.Wire.state c.args.wire.now) (g.W.Wire.state c.args.wire.now) refl refl

pub returns-in-There-clause-wire : goal.returns-in-There-clause-wire
returns-in-There-clause-wire g c = no_memory _ true (g.W.Wire.state c.args.wire.now)

pub returns-in-There-clause-recorded : goal.returns-in-There-clause-recorded
returns-in-There-clause-recorded g c = λ after whole. absurd (cc)

pub returns-in-There-clause-why_missed : goal.returns-in-There-clause-why_missed
returns-in-There-clause-why_missed g c = (c.in-There.ensures.0, c.in-There.ensures.1, refl, refl, c.in-There.ensures.2)

pub returns-clause-runs : goal.returns-clause-runs
returns-clause-runs g c =
    let p = c.args.prepared.now in
    let R = run_taken (branched_of p.branched) c.args.words.play.name.now c.args.words.told p.means.initial p.means.seed p.codes.items in
    runs_nowhere R (g.W.Wire.state c.args.wire.now)

pub returns-clause-prompt : goal.returns-clause-prompt
returns-clause-prompt g c =
    let p = c.args.prepared.now in
    let R = run_taken (branched_of p.branched) c.args.words.play.name.now c.args.words.told p.means.initial p.means.seed p.codes.items in
    prompt_nowhere R (g.W.Wire.state c.args.wire.now) (g.W.Wire.state c.args.wire.now) refl refl

pub returns-clause-wire : goal.returns-clause-wire
returns-clause-wire g c = no_memory _ true (g.W.Wire.state c.args.wire.now)

pub returns-clause-recorded : goal.returns-clause-recorded
returns-clause-recorded g c = λ after whole. absurd (cc)

-- ---- a play without a recording

pub returns-in-Failed-clause-why_missed : goal.returns-in-Failed-clause-why_missed
returns-in-Failed-clause-why_missed g c = λ some. (c.in-Failed.ensures.0, c.in-Failed.ensures.1, c.in-Failed.ensures.2)

pub returns-in-Failed-clause-recorded : goal.returns-in-Failed-clause-recorded
returns-in-Failed-clause-recorded g c = λ after whole. absurd (cc)

-- ---- a recorded play

pub returns-in-Ready-clause-why_missed : goal.returns-in-Ready-clause-why_missed
returns-in-Ready-clause-why_missed g c =
    let now = g.J.Store.state c.record_on.new.journal in
    missing_in_folder c.args.folder.now (g.J.Store.state c.args.journal.now) (g.J.Store.state c.open.new.journal) now (g.W.Wire.state c.args.wire.now) (g.W.Wire.state c.record_on.new.wire) c.record_on.result.status c.record_on.result.missing
    (ap (λ (s : StoreState). s.faults) c.in-Ready.ensures.1) (begun_alone c.args.folder.now c.in-Ok.text (g.J.Store.state c.args.journal.now) (g.J.Store.state c.open.new.journal) c.in-Ready.ensures.1)
    (rw (sym c.in-Ready.ensures.0) c.record_on.ensures.why_missed)

pub returns-in-Ready-clause-recorded : goal.returns-in-Ready-clause-recorded
returns-in-Ready-clause-recorded g c = λ after whole.
    let p = c.args.prepared.now in
    arm_in_folder (branched_of p.branched) c.args.words.play.name.now c.args.words.told p.means.initial p.means.seed c.args.folder.now c.in-Ok.text
    (g.J.Store.state c.args.journal.now) (g.J.Store.state c.open.new.journal) (g.J.Store.state c.record_on.new.journal) (g.W.Wire.state c.args.wire.now).left c.record_on.result.status
    c.in-Ready.ensures.1 c.in-Ok.ensures.is c.in-Ok.ensures.reads
    (rw (sym c.in-Ready.ensures.0) (c.record_on.ensures.recorded after whole))

-- ---- the play of the arm that is taken

pub returns-in-Err-clause-plays : goal.returns-in-Err-clause-plays
returns-in-Err-clause-plays g c = rw (c.as_slice-initial.ensures, c.deref.ensures.value) at c.fitting_arms_play.ensures

pub returns-in-There-clause-plays : goal.returns-in-There-clause-plays
returns-in-There-clause-plays g c = rw (c.as_slice-initial.ensures, c.deref.ensures.value) at c.fitting_arms_play.ensures

pub returns-clause-plays : goal.returns-clause-plays
returns-clause-plays g c = rw (c.as_slice-initial.ensures, c.deref.ensures.value) at c.fitting_arms_play.ensures

-- ---- no recording is taken over

pub returns-in-Err-clause-fresh : goal.returns-in-Err-clause-fresh
returns-in-Err-clause-fresh g c = inl refl

pub returns-in-There-clause-fresh : goal.returns-in-There-clause-fresh
returns-in-There-clause-fresh g c = inl refl

pub returns-clause-fresh : goal.returns-clause-fresh
returns-clause-fresh g c = inl refl

pub returns-in-Failed-clause-fresh : goal.returns-in-Failed-clause-fresh
returns-in-Failed-clause-fresh g c = inr (inr c.in-Failed.ensures.1)

pub returns-in-Ready-clause-fresh : goal.returns-in-Ready-clause-fresh
returns-in-Ready-clause-fresh g c = inr (inl c.in-Ready.ensures.2)
