use Rattle.std.proofs.Common.{rules}
use Rattle.anb_probe_commands.specs.Asking.{trying_by}
use Rattle.anb_probe_commands.specs.Tasks.{probing_by}
use Rattle.anb_probe_commands.specs.Words.{order_of}
use Rattle.anb_probe_commands.proofs.Told.{kept_behind}
use Rattle.anb_probe_commands.proofs.into.record_on.Goals as goal

pub returns-clause-kept : goal.returns-clause-kept
returns-clause-kept g c =
    let t = c.args.task.now in
    let new = c.probe_telling-status.new.keeper in
    kept_behind g.J.Store.state (probing_by t.protocol t.role t.values t.seed) c.args.prepared.now.scenes.items (order_of (trying_by c.args.trying)) c.args.prepared.now.cases.items c.args.folder.now
    (g.J.Store.state c.args.journal.now) c.args.missing (g.T.Trials.trial c.args.trials.now) (g.T.Trials.trial c.probe_telling-status.new.trials) c.probe_telling-status.result _ new.journal.now _ new.missing.now
    _ new.journal.ghost_name c.probe_telling-status.ensures.same_reference (search rules) _ new.missing.ghost_name c.probe_telling-status.ensures.same_place (search rules) c.probe_telling-status.ensures.kept
