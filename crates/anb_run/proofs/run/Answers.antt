use Rattle.std.proofs.Common.{[], refl, sym}
use Rattle.anb_base.specs.declared.place.Place.TheVariants.{Stdio}
use Rattle.anb_command.proofs.Causes.{only_memory, wire_cause}
use Rattle.anb_command.proofs.OverWire.{untouched}
use Rattle.anb_command.proofs.Reported.{told_before, told_behind}
use Rattle.anb_run.proofs.Idle.{fetches_none}
use Rattle.anb_run.proofs.run.Goals as goal
use Rattle.anb_run.proofs.run.Goals.{in-None, in-Some-Fmt, in-Some-Describe, in-Some-Play, in-Some-Enact, in-Some-Replay, in-Some-Host, in-Some-Rehearse, in-Some-Drill, in-Some-Help, in-Some-Page, in-Some-Branch, in-Some-Certify, in-Some-Why, in-Some-Park, in-Some-Resume, in-Some-Chart, in-Some-RoleChart, in-Some-Check, in-Some-CheckValues, in-Some-Trace, in-Some-Values, in-Some-RoleValues, in-Some-Judge}

pub returns-clause-faults : goal.returns-clause-faults
returns-clause-faults g c = elim c.match-read.branch [
  | in-None w ↦ rw (sym c.read.ensures, w.in-None.is, w.shelf-is, w.wire-is, w.status-is) (refl)
  | in-Some-Fmt w ↦ rw (sym c.read.ensures, w.in-Some-Fmt.is, w.in-Some-Fmt.field-0-is, w.shelf-is, w.wire-is, w.status-is) (w.fmt-status.ensures.faults)
  | in-Some-Describe w ↦ rw (sym c.read.ensures, w.in-Some-Describe.is, w.in-Some-Describe.field-0-is, w.shelf-is, w.wire-is, w.status-is) (w.describe-status.ensures.faults)
  | in-Some-Play w ↦ rw (sym c.read.ensures, w.in-Some-Play.is, w.in-Some-Play.field-0-is, w.shelf-is, w.wire-is, w.status-is) (w.play-status.ensures.faults)
  | in-Some-Enact w ↦ rw (sym c.read.ensures, w.in-Some-Enact.is, w.in-Some-Enact.field-0-is, w.shelf-is, w.wire-is, w.status-is) (w.enact-status.ensures.faults)
  | in-Some-Replay w ↦ rw (sym c.read.ensures, w.in-Some-Replay.is, w.in-Some-Replay.field-0-is, w.shelf-is, w.wire-is, w.status-is) (w.replay-status.ensures.faults)
  | in-Some-Host w ↦ rw (sym c.read.ensures, w.in-Some-Host.is, w.in-Some-Host.field-0-is, w.shelf-is, w.wire-is, w.status-is) (w.host-status.ensures.faults)
  | in-Some-Rehearse w ↦ rw (sym c.read.ensures, w.in-Some-Rehearse.is, w.in-Some-Rehearse.field-0-is, w.shelf-is, w.wire-is, w.status-is) (w.rehearse-status.ensures.faults)
  | in-Some-Drill w ↦ rw (sym c.read.ensures, w.in-Some-Drill.is, w.in-Some-Drill.field-0-is, w.shelf-is, w.wire-is, w.status-is) (wire_cause [] Stdio (g.F.Shelf.faults c.args.shelf.now) (g.F.Shelf.faults c.args.shelf.now) (g.W.Wire.state c.args.wire.now) (g.W.Wire.state w.drill-status.new.wire) w.drill-status.result w.drill-status.ensures.wire.cause)
  | in-Some-Help w ↦ rw (sym c.read.ensures, w.in-Some-Help.is, w.in-Some-Help.field-0-is, w.shelf-is, w.wire-is, w.status-is) (wire_cause [] Stdio (g.F.Shelf.faults c.args.shelf.now) (g.F.Shelf.faults c.args.shelf.now) (g.W.Wire.state c.args.wire.now) (g.W.Wire.state w.help-status.new.wire) w.help-status.result w.help-status.ensures.wire.cause)
  | in-Some-Page w ↦ rw (sym c.read.ensures, w.in-Some-Page.is, w.in-Some-Page.field-0-is, w.shelf-is, w.wire-is, w.status-is) (wire_cause [] Stdio (g.F.Shelf.faults c.args.shelf.now) (g.F.Shelf.faults c.args.shelf.now) (g.W.Wire.state c.args.wire.now) (g.W.Wire.state w.page-status.new.wire) w.page-status.result w.page-status.ensures.wire.cause)
  | in-Some-Branch w ↦ rw (sym c.read.ensures, w.in-Some-Branch.is, w.in-Some-Branch.field-0-is, w.shelf-is, w.wire-is, w.status-is) (w.branch-status.ensures.faults)
  | in-Some-Certify w ↦ rw (sym c.read.ensures, w.in-Some-Certify.is, w.in-Some-Certify.field-0-is, w.shelf-is, w.wire-is, w.status-is) (w.certify-status.ensures.faults)
  | in-Some-Why w ↦ rw (sym c.read.ensures, w.in-Some-Why.is, w.in-Some-Why.field-0-is, w.shelf-is, w.wire-is, w.status-is) (w.why-status.ensures.faults)
  | in-Some-Park w ↦ rw (sym c.read.ensures, w.in-Some-Park.is, w.in-Some-Park.field-0-is, w.shelf-is, w.wire-is, w.status-is) (w.park-status.ensures.faults)
  | in-Some-Resume w ↦ rw (sym c.read.ensures, w.in-Some-Resume.is, w.in-Some-Resume.field-0-is, w.shelf-is, w.wire-is, w.status-is) (w.resume-status.ensures.faults)
  | in-Some-Chart w ↦ rw (sym c.read.ensures, w.in-Some-Chart.is, w.in-Some-Chart.field-0-is, w.shelf-is, w.wire-is, w.status-is) (w.chart-status.ensures.faults)
  | in-Some-RoleChart w ↦ rw (sym c.read.ensures, w.in-Some-RoleChart.is, w.in-Some-RoleChart.field-0-is, w.shelf-is, w.wire-is, w.status-is) (w.chart_for-status.ensures.faults)
  | in-Some-Check w ↦ rw (sym c.read.ensures, w.in-Some-Check.is, w.in-Some-Check.field-0-is, w.shelf-is, w.wire-is, w.status-is) (w.check-status.ensures.faults)
  | in-Some-Values w ↦ rw (sym c.read.ensures, w.in-Some-Values.is, w.in-Some-Values.field-0-is, w.shelf-is, w.wire-is, w.status-is) (w.values-status.ensures.faults)
  | in-Some-RoleValues w ↦ rw (sym c.read.ensures, w.in-Some-RoleValues.is, w.in-Some-RoleValues.field-0-is, w.shelf-is, w.wire-is, w.status-is) (w.role_values-status.ensures.faults)
  | in-Some-CheckValues w ↦ rw (sym c.read.ensures, w.in-Some-CheckValues.is, w.in-Some-CheckValues.field-0-is, w.shelf-is, w.wire-is, w.status-is) (w.check_values-status.ensures.faults)
  | in-Some-Trace w ↦ rw (sym c.read.ensures, w.in-Some-Trace.is, w.in-Some-Trace.field-0-is, w.shelf-is, w.wire-is, w.status-is) (w.trace-status.ensures.faults)
  | in-Some-Judge w ↦ rw (sym c.read.ensures, w.in-Some-Judge.is, w.in-Some-Judge.field-0-is, w.shelf-is, w.wire-is, w.status-is) (w.judge-status.ensures.faults)
]

pub returns-clause-fetches : goal.returns-clause-fetches
returns-clause-fetches g c = elim c.match-read.branch [
  | in-None w ↦ rw (sym c.read.ensures, w.in-None.is, w.shelf-is) (fetches_none _ _)
  | in-Some-Fmt w ↦ rw (sym c.read.ensures, w.in-Some-Fmt.is, w.in-Some-Fmt.field-0-is, w.shelf-is) (w.fmt-status.ensures.fetches)
  | in-Some-Describe w ↦ rw (sym c.read.ensures, w.in-Some-Describe.is, w.in-Some-Describe.field-0-is, w.shelf-is) (w.describe-status.ensures.fetches)
  | in-Some-Play w ↦ rw (sym c.read.ensures, w.in-Some-Play.is, w.in-Some-Play.field-0-is, w.shelf-is) (w.play-status.ensures.fetches)
  | in-Some-Enact w ↦ rw (sym c.read.ensures, w.in-Some-Enact.is, w.in-Some-Enact.field-0-is, w.shelf-is) (w.enact-status.ensures.fetches)
  | in-Some-Replay w ↦ rw (sym c.read.ensures, w.in-Some-Replay.is, w.in-Some-Replay.field-0-is, w.shelf-is) (w.replay-status.ensures.fetches)
  | in-Some-Host w ↦ rw (sym c.read.ensures, w.in-Some-Host.is, w.in-Some-Host.field-0-is, w.shelf-is) (w.host-status.ensures.fetches)
  | in-Some-Rehearse w ↦ rw (sym c.read.ensures, w.in-Some-Rehearse.is, w.in-Some-Rehearse.field-0-is, w.shelf-is) (w.rehearse-status.ensures.fetches)
  | in-Some-Drill w ↦ rw (sym c.read.ensures, w.in-Some-Drill.is, w.in-Some-Drill.field-0-is, w.shelf-is) (fetches_none _ _)
  | in-Some-Help w ↦ rw (sym c.read.ensures, w.in-Some-Help.is, w.in-Some-Help.field-0-is, w.shelf-is) (fetches_none _ _)
  | in-Some-Page w ↦ rw (sym c.read.ensures, w.in-Some-Page.is, w.in-Some-Page.field-0-is, w.shelf-is) (fetches_none _ _)
  | in-Some-Branch w ↦ rw (sym c.read.ensures, w.in-Some-Branch.is, w.in-Some-Branch.field-0-is, w.shelf-is) (w.branch-status.ensures.fetches)
  | in-Some-Certify w ↦ rw (sym c.read.ensures, w.in-Some-Certify.is, w.in-Some-Certify.field-0-is, w.shelf-is) (w.certify-status.ensures.fetches)
  | in-Some-Why w ↦ rw (sym c.read.ensures, w.in-Some-Why.is, w.in-Some-Why.field-0-is, w.shelf-is) (w.why-status.ensures.fetches)
  | in-Some-Park w ↦ rw (sym c.read.ensures, w.in-Some-Park.is, w.in-Some-Park.field-0-is, w.shelf-is) (w.park-status.ensures.fetches)
  | in-Some-Resume w ↦ rw (sym c.read.ensures, w.in-Some-Resume.is, w.in-Some-Resume.field-0-is, w.shelf-is) (w.resume-status.ensures.fetches)
  | in-Some-Chart w ↦ rw (sym c.read.ensures, w.in-Some-Chart.is, w.in-Some-Chart.field-0-is, w.shelf-is) (w.chart-status.ensures.fetches)
  | in-Some-RoleChart w ↦ rw (sym c.read.ensures, w.in-Some-RoleChart.is, w.in-Some-RoleChart.field-0-is, w.shelf-is) (w.chart_for-status.ensures.fetches)
  | in-Some-Check w ↦ rw (sym c.read.ensures, w.in-Some-Check.is, w.in-Some-Check.field-0-is, w.shelf-is) (w.check-status.ensures.fetches)
  | in-Some-Values w ↦ rw (sym c.read.ensures, w.in-Some-Values.is, w.in-Some-Values.field-0-is, w.shelf-is) (w.values-status.ensures.fetches)
  | in-Some-RoleValues w ↦ rw (sym c.read.ensures, w.in-Some-RoleValues.is, w.in-Some-RoleValues.field-0-is, w.shelf-is) (w.role_values-status.ensures.fetches)
  | in-Some-CheckValues w ↦ rw (sym c.read.ensures, w.in-Some-CheckValues.is, w.in-Some-CheckValues.field-0-is, w.shelf-is) (w.check_values-status.ensures.fetches)
  | in-Some-Trace w ↦ rw (sym c.read.ensures, w.in-Some-Trace.is, w.in-Some-Trace.field-0-is, w.shelf-is) (w.trace-status.ensures.fetches)
  | in-Some-Judge w ↦ rw (sym c.read.ensures, w.in-Some-Judge.is, w.in-Some-Judge.field-0-is, w.shelf-is) (w.judge-status.ensures.fetches)
]

pub returns-clause-touches : goal.returns-clause-touches
returns-clause-touches g c = elim c.match-read.branch [
  | in-None w ↦ rw (sym c.read.ensures, w.in-None.is, w.wire-is, w.status-is) (untouched _ _ _)
  | in-Some-Fmt w ↦ rw (sym c.read.ensures, w.in-Some-Fmt.is, w.in-Some-Fmt.field-0-is, w.wire-is, w.status-is) (w.fmt-status.ensures.touches)
  | in-Some-Describe w ↦ rw (sym c.read.ensures, w.in-Some-Describe.is, w.in-Some-Describe.field-0-is, w.wire-is, w.status-is) (w.describe-status.ensures.touches)
  | in-Some-Play w ↦ rw (sym c.read.ensures, w.in-Some-Play.is, w.in-Some-Play.field-0-is, w.wire-is, w.status-is) (w.play-status.ensures.touches)
  | in-Some-Enact w ↦ rw (sym c.read.ensures, w.in-Some-Enact.is, w.in-Some-Enact.field-0-is, w.wire-is, w.status-is) (w.enact-status.ensures.touches)
  | in-Some-Replay w ↦ rw (sym c.read.ensures, w.in-Some-Replay.is, w.in-Some-Replay.field-0-is, w.wire-is, w.status-is) (w.replay-status.ensures.touches)
  | in-Some-Host w ↦ rw (sym c.read.ensures, w.in-Some-Host.is, w.in-Some-Host.field-0-is, w.wire-is, w.status-is) (w.host-status.ensures.touches)
  | in-Some-Rehearse w ↦ rw (sym c.read.ensures, w.in-Some-Rehearse.is, w.in-Some-Rehearse.field-0-is, w.wire-is, w.status-is) (w.rehearse-status.ensures.touches)
  | in-Some-Drill w ↦ rw (sym c.read.ensures, w.in-Some-Drill.is, w.in-Some-Drill.field-0-is, w.wire-is, w.status-is) (w.drill-status.ensures.wire.touches)
  | in-Some-Help w ↦ rw (sym c.read.ensures, w.in-Some-Help.is, w.in-Some-Help.field-0-is, w.wire-is, w.status-is) (w.help-status.ensures.wire.touches)
  | in-Some-Page w ↦ rw (sym c.read.ensures, w.in-Some-Page.is, w.in-Some-Page.field-0-is, w.wire-is, w.status-is) (w.page-status.ensures.wire.touches)
  | in-Some-Branch w ↦ rw (sym c.read.ensures, w.in-Some-Branch.is, w.in-Some-Branch.field-0-is, w.wire-is, w.status-is) (w.branch-status.ensures.touches)
  | in-Some-Certify w ↦ rw (sym c.read.ensures, w.in-Some-Certify.is, w.in-Some-Certify.field-0-is, w.wire-is, w.status-is) (w.certify-status.ensures.touches)
  | in-Some-Why w ↦ rw (sym c.read.ensures, w.in-Some-Why.is, w.in-Some-Why.field-0-is, w.wire-is, w.status-is) (w.why-status.ensures.touches)
  | in-Some-Park w ↦ rw (sym c.read.ensures, w.in-Some-Park.is, w.in-Some-Park.field-0-is, w.wire-is, w.status-is) (w.park-status.ensures.touches)
  | in-Some-Resume w ↦ rw (sym c.read.ensures, w.in-Some-Resume.is, w.in-Some-Resume.field-0-is, w.wire-is, w.status-is) (w.resume-status.ensures.touches)
  | in-Some-Chart w ↦ rw (sym c.read.ensures, w.in-Some-Chart.is, w.in-Some-Chart.field-0-is, w.wire-is, w.status-is) (w.chart-status.ensures.touches)
  | in-Some-RoleChart w ↦ rw (sym c.read.ensures, w.in-Some-RoleChart.is, w.in-Some-RoleChart.field-0-is, w.wire-is, w.status-is) (w.chart_for-status.ensures.touches)
  | in-Some-Check w ↦ rw (sym c.read.ensures, w.in-Some-Check.is, w.in-Some-Check.field-0-is, w.wire-is, w.status-is) (w.check-status.ensures.touches)
  | in-Some-Values w ↦ rw (sym c.read.ensures, w.in-Some-Values.is, w.in-Some-Values.field-0-is, w.wire-is, w.status-is) (w.values-status.ensures.touches)
  | in-Some-RoleValues w ↦ rw (sym c.read.ensures, w.in-Some-RoleValues.is, w.in-Some-RoleValues.field-0-is, w.wire-is, w.status-is) (w.role_values-status.ensures.touches)
  | in-Some-CheckValues w ↦ rw (sym c.read.ensures, w.in-Some-CheckValues.is, w.in-Some-CheckValues.field-0-is, w.wire-is, w.status-is) (w.check_values-status.ensures.touches)
  | in-Some-Trace w ↦ rw (sym c.read.ensures, w.in-Some-Trace.is, w.in-Some-Trace.field-0-is, w.wire-is, w.status-is) (w.trace-status.ensures.touches)
  | in-Some-Judge w ↦ rw (sym c.read.ensures, w.in-Some-Judge.is, w.in-Some-Judge.field-0-is, w.wire-is, w.status-is) (w.judge-status.ensures.touches)
]

pub returns-clause-reported : goal.returns-clause-reported
returns-clause-reported g c = elim c.match-read.branch [
  | in-None w ↦ rw (w.shelf-is, w.wire-is, w.status-is) (told_before _ _ _ _ (λ _. refl))
  | in-Some-Fmt w ↦ rw (w.shelf-is, w.wire-is, w.status-is) w.fmt-status.ensures.reported
  | in-Some-Describe w ↦ rw (w.shelf-is, w.wire-is, w.status-is) w.describe-status.ensures.reported
  | in-Some-Play w ↦ rw (w.shelf-is, w.wire-is, w.status-is) w.play-status.ensures.reported
  | in-Some-Enact w ↦ rw (w.shelf-is, w.wire-is, w.status-is) w.enact-status.ensures.reported
  | in-Some-Replay w ↦ rw (w.shelf-is, w.wire-is, w.status-is) w.replay-status.ensures.reported
  | in-Some-Host w ↦ rw (w.shelf-is, w.wire-is, w.status-is) w.host-status.ensures.reported
  | in-Some-Rehearse w ↦ rw (w.shelf-is, w.wire-is, w.status-is) w.rehearse-status.ensures.reported
  | in-Some-Drill w ↦ rw (w.shelf-is, w.wire-is, w.status-is) (told_behind _ _ _ _ _ refl w.drill-status.ensures.wire.told)
  | in-Some-Help w ↦ rw (w.shelf-is, w.wire-is, w.status-is) (told_behind _ _ _ _ _ refl w.help-status.ensures.wire.told)
  | in-Some-Page w ↦ rw (w.shelf-is, w.wire-is, w.status-is) (told_behind _ _ _ _ _ refl w.page-status.ensures.wire.told)
  | in-Some-Branch w ↦ rw (w.shelf-is, w.wire-is, w.status-is) w.branch-status.ensures.reported
  | in-Some-Certify w ↦ rw (w.shelf-is, w.wire-is, w.status-is) w.certify-status.ensures.reported
  | in-Some-Why w ↦ rw (w.shelf-is, w.wire-is, w.status-is) w.why-status.ensures.reported
  | in-Some-Park w ↦ rw (w.shelf-is, w.wire-is, w.status-is) w.park-status.ensures.reported
  | in-Some-Resume w ↦ rw (w.shelf-is, w.wire-is, w.status-is) w.resume-status.ensures.reported
  | in-Some-Chart w ↦ rw (w.shelf-is, w.wire-is, w.status-is) w.chart-status.ensures.reported
  | in-Some-RoleChart w ↦ rw (w.shelf-is, w.wire-is, w.status-is) w.chart_for-status.ensures.reported
  | in-Some-Check w ↦ rw (w.shelf-is, w.wire-is, w.status-is) w.check-status.ensures.reported
  | in-Some-Trace w ↦ rw (w.shelf-is, w.wire-is, w.status-is) w.trace-status.ensures.reported
  | in-Some-Judge w ↦ rw (w.shelf-is, w.wire-is, w.status-is) w.judge-status.ensures.reported
  | in-Some-Values w ↦ rw (w.shelf-is, w.wire-is, w.status-is) w.values-status.ensures.reported
  | in-Some-RoleValues w ↦ rw (w.shelf-is, w.wire-is, w.status-is) w.role_values-status.ensures.reported
  | in-Some-CheckValues w ↦ rw (w.shelf-is, w.wire-is, w.status-is) w.check_values-status.ensures.reported
]

pub returns-clause-completes : goal.returns-clause-completes
returns-clause-completes g c = elim c.match-read.branch [
  | in-None w ↦ rw (sym c.read.ensures, w.in-None.is, w.shelf-is, w.wire-is) (λ none. tt)
  | in-Some-Fmt w ↦ rw (sym c.read.ensures, w.in-Some-Fmt.is, w.in-Some-Fmt.field-0-is, w.shelf-is, w.wire-is, w.status-is) (w.fmt-status.ensures.completes)
  | in-Some-Describe w ↦ rw (sym c.read.ensures, w.in-Some-Describe.is, w.in-Some-Describe.field-0-is, w.shelf-is, w.wire-is, w.status-is) (w.describe-status.ensures.completes)
  | in-Some-Play w ↦ rw (sym c.read.ensures, w.in-Some-Play.is, w.in-Some-Play.field-0-is, w.shelf-is, w.wire-is, w.status-is) (w.play-status.ensures.completes)
  | in-Some-Enact w ↦ rw (sym c.read.ensures, w.in-Some-Enact.is, w.in-Some-Enact.field-0-is, w.shelf-is, w.wire-is, w.status-is) (w.enact-status.ensures.completes)
  | in-Some-Replay w ↦ rw (sym c.read.ensures, w.in-Some-Replay.is, w.in-Some-Replay.field-0-is, w.shelf-is, w.wire-is, w.status-is) (w.replay-status.ensures.completes)
  | in-Some-Host w ↦ rw (sym c.read.ensures, w.in-Some-Host.is, w.in-Some-Host.field-0-is, w.shelf-is, w.wire-is, w.status-is) (w.host-status.ensures.completes)
  | in-Some-Rehearse w ↦ rw (sym c.read.ensures, w.in-Some-Rehearse.is, w.in-Some-Rehearse.field-0-is, w.shelf-is, w.wire-is, w.status-is) (w.rehearse-status.ensures.completes)
  | in-Some-Drill w ↦ rw (sym c.read.ensures, w.in-Some-Drill.is, w.in-Some-Drill.field-0-is, w.shelf-is, w.wire-is, w.status-is) (λ none. w.drill-status.ensures.completes (only_memory [] Stdio (g.F.Shelf.faults c.args.shelf.now) (g.F.Shelf.faults c.args.shelf.now) (g.W.Wire.state c.args.wire.now) (g.W.Wire.state w.drill-status.new.wire) none w.drill-status.result (wire_cause [] Stdio (g.F.Shelf.faults c.args.shelf.now) (g.F.Shelf.faults c.args.shelf.now) (g.W.Wire.state c.args.wire.now) (g.W.Wire.state w.drill-status.new.wire) w.drill-status.result w.drill-status.ensures.wire.cause)))
  | in-Some-Help w ↦ rw (sym c.read.ensures, w.in-Some-Help.is, w.in-Some-Help.field-0-is, w.shelf-is, w.wire-is, w.status-is) (λ none. w.help-status.ensures.completes (only_memory [] Stdio (g.F.Shelf.faults c.args.shelf.now) (g.F.Shelf.faults c.args.shelf.now) (g.W.Wire.state c.args.wire.now) (g.W.Wire.state w.help-status.new.wire) none w.help-status.result (wire_cause [] Stdio (g.F.Shelf.faults c.args.shelf.now) (g.F.Shelf.faults c.args.shelf.now) (g.W.Wire.state c.args.wire.now) (g.W.Wire.state w.help-status.new.wire) w.help-status.result w.help-status.ensures.wire.cause)))
  | in-Some-Page w ↦ rw (sym c.read.ensures, w.in-Some-Page.is, w.in-Some-Page.field-0-is, w.shelf-is, w.wire-is, w.status-is) (λ none. w.page-status.ensures.completes (only_memory [] Stdio (g.F.Shelf.faults c.args.shelf.now) (g.F.Shelf.faults c.args.shelf.now) (g.W.Wire.state c.args.wire.now) (g.W.Wire.state w.page-status.new.wire) none w.page-status.result (wire_cause [] Stdio (g.F.Shelf.faults c.args.shelf.now) (g.F.Shelf.faults c.args.shelf.now) (g.W.Wire.state c.args.wire.now) (g.W.Wire.state w.page-status.new.wire) w.page-status.result w.page-status.ensures.wire.cause)))
  | in-Some-Branch w ↦ rw (sym c.read.ensures, w.in-Some-Branch.is, w.in-Some-Branch.field-0-is, w.shelf-is, w.wire-is, w.status-is) (w.branch-status.ensures.completes)
  | in-Some-Certify w ↦ rw (sym c.read.ensures, w.in-Some-Certify.is, w.in-Some-Certify.field-0-is, w.shelf-is, w.wire-is, w.status-is) (w.certify-status.ensures.completes)
  | in-Some-Why w ↦ rw (sym c.read.ensures, w.in-Some-Why.is, w.in-Some-Why.field-0-is, w.shelf-is, w.wire-is, w.status-is) (w.why-status.ensures.completes)
  | in-Some-Park w ↦ rw (sym c.read.ensures, w.in-Some-Park.is, w.in-Some-Park.field-0-is, w.shelf-is, w.wire-is, w.status-is) (w.park-status.ensures.completes)
  | in-Some-Resume w ↦ rw (sym c.read.ensures, w.in-Some-Resume.is, w.in-Some-Resume.field-0-is, w.shelf-is, w.wire-is, w.status-is) (w.resume-status.ensures.completes)
  | in-Some-Chart w ↦ rw (sym c.read.ensures, w.in-Some-Chart.is, w.in-Some-Chart.field-0-is, w.shelf-is, w.wire-is, w.status-is) (w.chart-status.ensures.completes)
  | in-Some-RoleChart w ↦ rw (sym c.read.ensures, w.in-Some-RoleChart.is, w.in-Some-RoleChart.field-0-is, w.shelf-is, w.wire-is, w.status-is) (w.chart_for-status.ensures.completes)
  | in-Some-Trace w ↦ rw (sym c.read.ensures, w.in-Some-Trace.is, w.in-Some-Trace.field-0-is, w.shelf-is, w.wire-is, w.status-is) (w.trace-status.ensures.completes)
  | in-Some-Judge w ↦ rw (sym c.read.ensures, w.in-Some-Judge.is, w.in-Some-Judge.field-0-is, w.shelf-is, w.wire-is, w.status-is) (w.judge-status.ensures.completes)
  | in-Some-Check w ↦ rw (sym c.read.ensures, w.in-Some-Check.is, w.in-Some-Check.field-0-is, w.shelf-is, w.wire-is, w.status-is) (w.check-status.ensures.completes)
  | in-Some-Values w ↦ rw (sym c.read.ensures, w.in-Some-Values.is, w.in-Some-Values.field-0-is, w.shelf-is, w.wire-is, w.status-is) (w.values-status.ensures.completes)
  | in-Some-RoleValues w ↦ rw (sym c.read.ensures, w.in-Some-RoleValues.is, w.in-Some-RoleValues.field-0-is, w.shelf-is, w.wire-is, w.status-is) (w.role_values-status.ensures.completes)
  | in-Some-CheckValues w ↦ rw (sym c.read.ensures, w.in-Some-CheckValues.is, w.in-Some-CheckValues.field-0-is, w.shelf-is, w.wire-is, w.status-is) (w.check_values-status.ensures.completes)
]
