use Rattle.std.proofs.Common.{List}
use Rattle.anb_probe_commands.specs.Asking.{trying_by}
use Rattle.anb_probe_commands.specs.Keeping.{Goes, KeepsOn, Told}
use Rattle.anb_probe_commands.specs.Tasks.{probing_by}
use Rattle.anb_probe_commands.specs.Words.{order_of}
use Rattle.anb_probe_commands.proofs.Kept.{keeps_mapped, keeps_some}
use Rattle.anb_probe_commands.proofs.into.probe_telling.Goals as goal

pub returns-clause-same_reference : goal.returns-clause-same_reference
returns-clause-same_reference g c =
    let t = c.args.task.now in
    let k = c.args.keeper.now in
    let n = c.probe_over.new.keeper in
    (keeps_some (probing_by t.protocol t.role t.values t.seed) c.args.prepared.now (order_of (trying_by c.args.trying))
    (λ (some : List Told). KeepsOn k.journal.ghost_name n.journal.ghost_name k.folder.now n.folder.now k.missing.ghost_name n.missing.ghost_name (g.J.Store.state k.journal.now) (g.J.Store.state n.journal.now) k.missing.now n.missing.now some)
    (g.T.Trials.trial c.args.trials.now) (g.T.Trials.trial c.probe_over.new.trials) c.probe_over.result c.probe_over.ensures.kept).1.0

pub returns-clause-same_folder : goal.returns-clause-same_folder
returns-clause-same_folder g c =
    let t = c.args.task.now in
    let k = c.args.keeper.now in
    let n = c.probe_over.new.keeper in
    (keeps_some (probing_by t.protocol t.role t.values t.seed) c.args.prepared.now (order_of (trying_by c.args.trying))
    (λ (some : List Told). KeepsOn k.journal.ghost_name n.journal.ghost_name k.folder.now n.folder.now k.missing.ghost_name n.missing.ghost_name (g.J.Store.state k.journal.now) (g.J.Store.state n.journal.now) k.missing.now n.missing.now some)
    (g.T.Trials.trial c.args.trials.now) (g.T.Trials.trial c.probe_over.new.trials) c.probe_over.result c.probe_over.ensures.kept).1.1

pub returns-clause-same_place : goal.returns-clause-same_place
returns-clause-same_place g c =
    let t = c.args.task.now in
    let k = c.args.keeper.now in
    let n = c.probe_over.new.keeper in
    (keeps_some (probing_by t.protocol t.role t.values t.seed) c.args.prepared.now (order_of (trying_by c.args.trying))
    (λ (some : List Told). KeepsOn k.journal.ghost_name n.journal.ghost_name k.folder.now n.folder.now k.missing.ghost_name n.missing.ghost_name (g.J.Store.state k.journal.now) (g.J.Store.state n.journal.now) k.missing.now n.missing.now some)
    (g.T.Trials.trial c.args.trials.now) (g.T.Trials.trial c.probe_over.new.trials) c.probe_over.result c.probe_over.ensures.kept).1.3

pub returns-clause-kept : goal.returns-clause-kept
returns-clause-kept g c =
    let t = c.args.task.now in
    let k = c.args.keeper.now in
    let n = c.probe_over.new.keeper in
    keeps_mapped (probing_by t.protocol t.role t.values t.seed) c.args.prepared.now (order_of (trying_by c.args.trying))
    (λ (some : List Told). KeepsOn k.journal.ghost_name n.journal.ghost_name k.folder.now n.folder.now k.missing.ghost_name n.missing.ghost_name (g.J.Store.state k.journal.now) (g.J.Store.state n.journal.now) k.missing.now n.missing.now some)
    (g.T.Trials.trial c.args.trials.now) (g.T.Trials.trial c.probe_over.new.trials)
    (λ (some : List Told). Goes k.folder.now (g.J.Store.state k.journal.now) (g.J.Store.state n.journal.now) k.missing.now n.missing.now some)
    (λ some on. on.2) c.probe_over.result c.probe_over.ensures.kept
