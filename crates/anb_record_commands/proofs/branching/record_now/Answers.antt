use Rattle.std.proofs.Common.{refl}
use Rattle.anb_base.specs.Wires.{WireState}
use Rattle.anb_choice.specs.Views.{branched_of}
use Rattle.anb_branch.specs.Taken.{run_taken}
use Rattle.anb_command.specs.Prepared.{RunsOn, status_of}
use Rattle.anb_command.proofs.Causes.{after_of, cause_of}
use Rattle.anb_command.proofs.OverWire.{by_parts}
use Rattle.anb_command.proofs.Reported.{session_told, session_stays}
use Rattle.anb_command.proofs.Runs.{runs_to}
use Rattle.anb_record_commands.proofs.Arms.{misses_arm, records_arm}
use Rattle.anb_record_commands.proofs.branching.record_now.Goals as goal

pub returns-clause-runs : goal.returns-clause-runs
returns-clause-runs g c =
    let p = c.args.prepared.now in
    let R = run_taken (branched_of p.branched) c.args.words.play.name.now c.args.words.told p.means.initial p.means.seed p.codes.items in
    by_parts (λ (S T : WireState). RunsOn R S T c.status_of.result) _ _ _ _ (g.met.W.Wire.state_tells c.args.wire.now) (g.met.W.Wire.state_tells c.branch_record-recorded.new.wire)
    (λ arrivals tail cut. rw c.status_of.ensures (runs_to R R (λ heard. refl) arrivals tail _ _ _ _ c.branch_record-recorded.result.end ((rw (c.as_slice-initial.ensures, c.deref.ensures.value) at c.branch_record-recorded.ensures.runs) arrivals tail cut)))

pub returns-clause-after : goal.returns-clause-after
returns-clause-after g c = rw c.status_of.ensures (after_of c.branch_record-recorded.result.end)

pub returns-clause-cause : goal.returns-clause-cause
returns-clause-cause g c = λ place.
    let tells = c.branch_record-recorded.ensures.faults in
    rw c.status_of.ensures (cause_of c.branch_record-recorded.result.end place (g.W.Wire.state c.args.wire.now) (g.W.Wire.state c.branch_record-recorded.new.wire) tells.reading.rose tells.writing.rose)

pub returns-clause-told : goal.returns-clause-told
returns-clause-told g c =
    rw c.status_of.ensures (session_told (g.W.Wire.state c.args.wire.now) (g.W.Wire.state c.branch_record-recorded.new.wire) c.branch_record-recorded.result.end c.branch_record-recorded.ensures.faults status_of refl refl)

pub returns-clause-reached : goal.returns-clause-reached
returns-clause-reached g c = session_stays (g.W.Wire.state c.args.wire.now) (g.W.Wire.state c.branch_record-recorded.new.wire) c.branch_record-recorded.result.end c.branch_record-recorded.ensures.faults

pub returns-clause-why_missed : goal.returns-clause-why_missed
returns-clause-why_missed g c =
    let p = c.args.prepared.now in
    let R = run_taken (branched_of p.branched) c.args.words.play.name.now c.args.words.told p.means.initial p.means.seed p.codes.items in
    let r = c.branch_record-recorded in
    rw (c.status_of.ensures, c.missing_of.ensures)
    (misses_arm (branched_of p.branched) c.args.words.play.name.now c.args.words.told p.means.initial p.means.seed p.codes.items c.args.transcript (g.J.Store.state c.args.journal.now) (g.J.Store.state r.new.journal) (g.W.Wire.state c.args.wire.now).left r.result.end r.result.kept
    (rw (c.as_slice-initial.ensures, c.deref.ensures.value) at r.ensures.recorded))

pub returns-clause-recorded : goal.returns-clause-recorded
returns-clause-recorded g c =
    let p = c.args.prepared.now in
    let R = run_taken (branched_of p.branched) c.args.words.play.name.now c.args.words.told p.means.initial p.means.seed p.codes.items in
    let r = c.branch_record-recorded in
    rw (c.status_of.ensures, c.missing_of.ensures)
    (records_arm (branched_of p.branched) c.args.words.play.name.now c.args.words.told p.means.initial p.means.seed p.codes.items c.args.transcript (g.J.Store.state c.args.journal.now) (g.J.Store.state r.new.journal) (g.W.Wire.state c.args.wire.now).left r.result.end r.result.kept
    (rw (c.as_slice-initial.ensures, c.deref.ensures.value) at r.ensures.arms) (rw (c.as_slice-initial.ensures, c.deref.ensures.value) at r.ensures.recorded))
