use Rattle.std.proofs.Common.{refl}
use Rattle.anb_base.specs.Wires.{WireState}
use Rattle.anb_choice.specs.Views.{branched_of}
use Rattle.anb_branch.specs.Taken.{run_taken}
use Rattle.anb_command.specs.Prepared.{RunsOn, status_of}
use Rattle.anb_command.proofs.Causes.{after_of, cause_of}
use Rattle.anb_command.proofs.OverWire.{by_parts}
use Rattle.anb_command.proofs.Reported.{session_told, session_stays}
use Rattle.anb_command.proofs.Runs.{runs_to}
use Rattle.anb_branch_commands.proofs.branching.branch_now.Goals as goal

pub returns-clause-runs : goal.returns-clause-runs
returns-clause-runs g c =
    let p = c.args.prepared.now in
    let R = run_taken (branched_of p.branched) c.args.words.play.name.now c.args.words.told p.means.initial p.means.seed p.codes.items in
    by_parts (λ (S T : WireState). RunsOn R S T c.status_of.result) _ _ _ _ (g.met.W.Wire.state_tells c.args.wire.now) (g.met.W.Wire.state_tells c.branch_play.new.wire)
    (λ arrivals tail cut. rw c.status_of.ensures (runs_to R R (λ heard. refl) arrivals tail _ _ _ _ c.branch_play.result ((rw (c.as_slice-initial.ensures, c.deref.ensures.value) at c.branch_play.ensures.runs) arrivals tail cut)))

pub returns-clause-after : goal.returns-clause-after
returns-clause-after g c = rw c.status_of.ensures (after_of c.branch_play.result)

pub returns-clause-cause : goal.returns-clause-cause
returns-clause-cause g c = λ place.
    let tells = c.branch_play.ensures.faults in
    rw c.status_of.ensures (cause_of c.branch_play.result place (g.W.Wire.state c.args.wire.now) (g.W.Wire.state c.branch_play.new.wire) tells.reading.rose tells.writing.rose)

pub returns-clause-told : goal.returns-clause-told
returns-clause-told g c =
    rw c.status_of.ensures (session_told (g.W.Wire.state c.args.wire.now) (g.W.Wire.state c.branch_play.new.wire) c.branch_play.result c.branch_play.ensures.faults status_of refl refl)

pub returns-clause-reached : goal.returns-clause-reached
returns-clause-reached g c = session_stays (g.W.Wire.state c.args.wire.now) (g.W.Wire.state c.branch_play.new.wire) c.branch_play.result c.branch_play.ensures.faults
