use Rattle.std.proofs.Common.{List, sym, subst}
use Rattle.anb_base.specs.declared.place.Place.TheVariants.{Stdio}
use Rattle.anb_status.specs.declared.status.Status.TheVariants.{Unreached}
use Rattle.anb_probe_commands.specs.Keeping.{KeepsBy, Told}
use Rattle.anb_probe_commands.specs.Words.{order_of}
use Rattle.anb_probe_commands.proofs.Kept.{keeps_as, keeps_none}
use Rattle.anb_probe_commands.proofs.Ending.{over_trials, reached_comes, unreached_comes, unreached_over}
use Rattle.anb_probe_commands.proofs.Played.{none_left_at_first}
use Rattle.anb_probe_commands.specs.Asking.{trying_by}
use Rattle.anb_probe_commands.specs.Tasks.{agenda_by, probing_by}
use Rattle.anb_probe_commands.proofs.probing.probe_over.Goals as goal

pub returns-in-Ok-clause-comes : goal.returns-in-Ok-clause-comes
returns-in-Ok-clause-comes g c =
    let t = c.args.task.now in
    reached_comes (probing_by t.protocol t.role t.values t.seed) (trying_by c.args.trying) (agenda_by c.args.prepared.now) c.args.name (g.T.Trials.trial c.args.trials.now) (g.T.Trials.trial c.probe_reached.new.trials)
    (g.W.Wire.state c.args.wire.now) (g.W.Wire.state c.reach_stdio.new.wire) (g.W.Wire.state c.probe_reached.new.wire) c.in-Ok.ensures.reached c.probe_reached.result c.probe_reached.ensures.comes

pub returns-in-Ok-clause-over : goal.returns-in-Ok-clause-over
returns-in-Ok-clause-over g c =
    over_trials (g.T.Trials.trial c.args.trials.now) (g.T.Trials.trial c.probe_reached.new.trials)
    (g.W.Wire.state c.args.wire.now) (g.W.Wire.state c.reach_stdio.new.wire) (g.W.Wire.state c.probe_reached.new.wire) c.in-Ok.ensures.reached c.probe_reached.result c.probe_reached.ensures.ends

pub returns-in-Err-clause-comes : goal.returns-in-Err-clause-comes
returns-in-Err-clause-comes g c =
    let t = c.args.task.now in
    unreached_comes (probing_by t.protocol t.role t.values t.seed) (trying_by c.args.trying) (agenda_by c.args.prepared.now) c.args.name (g.T.Trials.trial c.args.trials.now)
    (g.W.Wire.state c.args.wire.now) (g.W.Wire.state c.reach_stdio.new.wire) c.in-Err.status c.in-Err.ensures.failed.0 c.in-Err.ensures.failed.1

pub returns-in-Err-clause-over : goal.returns-in-Err-clause-over
returns-in-Err-clause-over g c =
    unreached_over (g.T.Trials.trial c.args.trials.now) (g.W.Wire.state c.args.wire.now) (g.W.Wire.state c.reach_stdio.new.wire) c.in-Err.status c.in-Err.ensures.failed.0 c.in-Err.ensures.failed.1

pub returns-in-Err-clause-none_left : goal.returns-in-Err-clause-none_left
returns-in-Err-clause-none_left g c = none_left_at_first (g.T.Trials.trial c.args.trials.now) c.requires.untried

pub returns-in-Ok-clause-kept : goal.returns-in-Ok-clause-kept
returns-in-Ok-clause-kept g c = c.probe_reached.ensures.kept

pub returns-in-Err-clause-kept : goal.returns-in-Err-clause-kept
returns-in-Err-clause-kept g c =
    let t = c.args.task.now in
    let q = probing_by t.protocol t.role t.values t.seed in
    let x = c.args.prepared.now in
    let old = g.T.Trials.trial c.args.trials.now in
    let After = λ (some : List Told). g.K.Keeper.After c.args.keeper.now some c.args.keeper.now in
    subst (KeepsBy q x.scenes.items (order_of (trying_by c.args.trying)) x.cases.items After old old) (sym c.in-Err.ensures.failed.0)
    (keeps_as q x (order_of (trying_by c.args.trying)) After old old (Unreached Stdio) (λ e. cc) (λ a b same. same)
    (keeps_none q x (order_of (trying_by c.args.trying)) After old c.requires.untried (g.met.K.Keeper.stays c.args.keeper.now)))
