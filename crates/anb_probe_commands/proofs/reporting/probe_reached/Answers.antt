use Rattle.std.proofs.Common.{List, sym, subst, ◌∙◌}
use Rattle.anb_status.specs.declared.status.Status.{Status}
use Rattle.anb_probe_commands.specs.Asking.{trying_by}
use Rattle.anb_probe_commands.specs.ProbeCommand.{ComesTo}
use Rattle.anb_status.specs.declared.status.Status.TheVariants.{Done}
use Rattle.anb_probe_commands.specs.Keeping.{KeepsBy, Told}
use Rattle.anb_probe_commands.specs.Tasks.{agenda_by, probing_by}
use Rattle.anb_probe_commands.specs.Words.{order_of}
use Rattle.anb_probe_commands.proofs.Kept.{keeps_all, keeps_as, keeps_behind, keeps_less, keeps_none}
use Rattle.anb_probe_commands.proofs.Ending.{comes_beyond_cut, comes_less}
use Rattle.anb_probe_commands.proofs.reporting.probe_reached.Goals as goal

pub returns-in-Err-clause-comes : goal.returns-in-Err-clause-comes
returns-in-Err-clause-comes g c =
    let t = c.args.task.now in
    let q = probing_by t.protocol t.role t.values t.seed in
    let old = g.T.Trials.trial c.args.trials.now in
    let S = g.W.Wire.state c.args.wire.now in
    let T = g.W.Wire.state c.write_none.new.wire in
    subst (ComesTo q (trying_by c.args.trying) (agenda_by c.args.prepared.now) c.args.name old old S.written T.written) (sym c.status_of.ensures)
    (comes_beyond_cut q (trying_by c.args.trying) (agenda_by c.args.prepared.now) c.args.name old S T c.in-Err.no c.requires.untried c.in-Err.ensures.broke)

pub returns-in-Err-play_all-clause-comes : goal.returns-in-Err-play_all-clause-comes
returns-in-Err-play_all-clause-comes g c =
    let t = c.args.task.now in
    let q = probing_by t.protocol t.role t.values t.seed in
    let S = g.W.Wire.state c.args.wire.now in
    let T = g.W.Wire.state c.play_all.new.wire in
    let new = g.T.Trials.trial c.play_all.new.trials in
    subst (λ (s : Status). ComesTo q (trying_by c.args.trying) (agenda_by c.args.prepared.now) c.args.name (g.T.Trials.trial c.args.trials.now) new S.written T.written s) (sym c.status_of-in-Err-play_all.ensures)
    (comes_less q (trying_by c.args.trying) (agenda_by c.args.prepared.now) c.args.name (g.T.Trials.trial c.args.trials.now) new S T c.in-Err-play_all.no (sym c.is_beyond.ensures ∙ c.if-is_beyond.false) c.in-Err-play_all.ensures.cut)

pub returns-in-Ok-clause-kept : goal.returns-in-Ok-clause-kept
returns-in-Ok-clause-kept g c =
    let t = c.args.task.now in
    let q = probing_by t.protocol t.role t.values t.seed in
    let x = c.args.prepared.now in
    let old = g.T.Trials.trial c.args.trials.now in
    let After = λ (some : List Told). g.K.Keeper.After c.args.keeper.now some c.args.keeper.now in
    keeps_as q x (order_of (trying_by c.args.trying)) After old old Done (λ e. cc) (λ a b same. same)
    (keeps_none q x (order_of (trying_by c.args.trying)) After old c.requires.untried (g.met.K.Keeper.stays c.args.keeper.now))

pub returns-in-Err-clause-kept : goal.returns-in-Err-clause-kept
returns-in-Err-clause-kept g c =
    let t = c.args.task.now in
    let q = probing_by t.protocol t.role t.values t.seed in
    let x = c.args.prepared.now in
    let old = g.T.Trials.trial c.args.trials.now in
    let After = λ (some : List Told). g.K.Keeper.After c.args.keeper.now some c.args.keeper.now in
    subst (KeepsBy q x.scenes.items (order_of (trying_by c.args.trying)) x.cases.items After old old) (sym c.status_of.ensures)
    (keeps_less q x (order_of (trying_by c.args.trying)) After old old c.in-Err.no c.args.name
    (keeps_behind q x (order_of (trying_by c.args.trying)) After old old c.in-Err.no c.in-Err.ensures.broke.started
    (keeps_none q x (order_of (trying_by c.args.trying)) After old c.requires.untried (g.met.K.Keeper.stays c.args.keeper.now))))

pub returns-in-Ok-play_all-clause-kept : goal.returns-in-Ok-play_all-clause-kept
returns-in-Ok-play_all-clause-kept g c =
    let t = c.args.task.now in
    let x = c.args.prepared.now in
    let After = λ (some : List Told). g.K.Keeper.After c.args.keeper.now some c.play_all.new.keeper in
    subst (KeepsBy (probing_by t.protocol t.role t.values t.seed) x.scenes.items (order_of (trying_by c.args.trying)) x.cases.items After (g.T.Trials.trial c.args.trials.now) (g.T.Trials.trial c.play_all.new.trials)) (sym c.status_for.ensures)
    (keeps_all (probing_by t.protocol t.role t.values t.seed) x (order_of (trying_by c.args.trying)) After (g.T.Trials.trial c.args.trials.now) (g.T.Trials.trial c.play_all.new.trials) c.deref.result.now c.in-Ok-play_all.ensures.kept)

pub returns-in-Err-play_all-clause-kept : goal.returns-in-Err-play_all-clause-kept
returns-in-Err-play_all-clause-kept g c =
    let t = c.args.task.now in
    let x = c.args.prepared.now in
    let After = λ (some : List Told). g.K.Keeper.After c.args.keeper.now some c.play_all.new.keeper in
    subst (KeepsBy (probing_by t.protocol t.role t.values t.seed) x.scenes.items (order_of (trying_by c.args.trying)) x.cases.items After (g.T.Trials.trial c.args.trials.now) (g.T.Trials.trial c.play_all.new.trials)) (sym c.status_of-in-Err-play_all.ensures)
    (keeps_less (probing_by t.protocol t.role t.values t.seed) x (order_of (trying_by c.args.trying)) After (g.T.Trials.trial c.args.trials.now) (g.T.Trials.trial c.play_all.new.trials) c.in-Err-play_all.no c.args.name c.in-Err-play_all.ensures.kept_less)
