use Rattle.anb_base.specs.declared.place.Place.TheVariants.{Stdio}
use Rattle.anb_recorded.proofs.Telling.{told_faults}
use Rattle.anb_probe_commands.specs.Asking.{probing}
use Rattle.anb_probe_commands.specs.ProbeCommand.{probe_files}
use Rattle.anb_probe_commands.specs.Records.{IsOfRecord}
use Rattle.anb_probe_commands.proofs.Outcomes.{only_memory}
use Rattle.anb_probe_commands.proofs.Told.{told_probe_cause, told_probe_completes, told_probe_reaches, told_probe_touches}
use Rattle.anb_probe_commands.proofs.into.probe_into.Goals as goal

pub returns-clause-does : goal.returns-clause-does
returns-clause-does g c =
    let e = c.probe_recorded.ensures in
    record {
      end = c.probe_recorded.result.status;
      missed = c.probe_recorded.result.missing;
      does = e.does;
      told_so = c.told.ensures;
      why_missed = e.why_missed;
      fresh = e.fresh;
      leaves = e.leaves;
      recorded = e.recorded;
    }

pub returns-clause-faults : goal.returns-clause-faults
returns-clause-faults g c =
    let e = c.probe_recorded.ensures in
    let r = c.probe_recorded.result in
    rw c.told.ensures
    (told_probe_cause c.args.folder.now (g.J.Store.state c.args.journal.now) (g.J.Store.state c.probe_recorded.new.journal) (g.W.Wire.state c.args.wire.now) (g.W.Wire.state c.probe_recorded.new.wire) r.status r.missing e.why_missed
    (probe_files (probing c.args.words)) (g.F.Shelf.faults c.args.shelf.now) (g.F.Shelf.faults c.probe_recorded.new.shelf) (g.T.Trials.trial c.args.trials.now) (g.T.Trials.trial c.probe_recorded.new.trials) e.faults)

pub returns-clause-reported : goal.returns-clause-reported
returns-clause-reported g c =
    let e = c.probe_recorded.ensures in
    let r = c.probe_recorded.result in
    rw c.told.ensures
    (told_faults (IsOfRecord c.args.folder.now) (g.J.Store.state c.args.journal.now) (g.J.Store.state c.probe_recorded.new.journal) (g.W.Wire.state c.args.wire.now) (g.W.Wire.state c.probe_recorded.new.wire) r.status r.missing e.why_missed
    (probe_files (probing c.args.words)) Stdio (g.F.Shelf.faults c.args.shelf.now) (g.F.Shelf.faults c.probe_recorded.new.shelf) e.reported)

pub returns-clause-reached : goal.returns-clause-reached
returns-clause-reached g c =
    let e = c.probe_recorded.ensures in
    let r = c.probe_recorded.result in
    rw c.told.ensures
    (told_probe_reaches c.args.folder.now (g.J.Store.state c.args.journal.now) (g.J.Store.state c.probe_recorded.new.journal) (g.W.Wire.state c.args.wire.now) (g.W.Wire.state c.probe_recorded.new.wire) r.status r.missing e.why_missed e.reached)

pub returns-clause-touches : goal.returns-clause-touches
returns-clause-touches g c =
    let e = c.probe_recorded.ensures in
    let r = c.probe_recorded.result in
    rw c.told.ensures
    (told_probe_touches c.args.folder.now (g.J.Store.state c.args.journal.now) (g.J.Store.state c.probe_recorded.new.journal) (g.W.Wire.state c.args.wire.now) (g.W.Wire.state c.probe_recorded.new.wire) r.status r.missing e.why_missed e.touches)

pub returns-clause-completes : goal.returns-clause-completes
returns-clause-completes g c = λ none calm still.
    let e = c.probe_recorded.ensures in
    let r = c.probe_recorded.result in
    rw c.told.ensures
    (told_probe_completes c.args.folder.now (g.J.Store.state c.args.journal.now) (g.J.Store.state c.probe_recorded.new.journal) (g.W.Wire.state c.args.wire.now) (g.W.Wire.state c.probe_recorded.new.wire) r.status r.missing e.why_missed
    (probing c.args.words) (g.F.Shelf.files c.args.shelf.now) c.args.host_seed (g.T.Trials.trial c.args.trials.now) (g.T.Trials.trial c.probe_recorded.new.trials) still
    (only_memory (probe_files (probing c.args.words)) (g.F.Shelf.faults c.args.shelf.now) (g.F.Shelf.faults c.probe_recorded.new.shelf) (g.T.Trials.trial c.args.trials.now) (g.T.Trials.trial c.probe_recorded.new.trials)
    (g.W.Wire.state c.args.wire.now) (g.W.Wire.state c.probe_recorded.new.wire) none calm r.status e.faults) (e.completes none calm) e.recorded)
