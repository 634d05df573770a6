use Rattle.std.proofs.Common.{ℕ, List, refl, inl, inr, subst}
use Rattle.anb_probe_commands.specs.Playing.{TaskComesTo}
use Rattle.anb_probe_commands.proofs.Ending.{over_refused, over_wanting, task_comes}
use Rattle.anb_probe_commands.proofs.Played.{none_left_at_first}
use Rattle.anb_probe_commands.specs.Asking.{trying_by}
use Rattle.anb_probe_commands.specs.Tasks.{probing_by}
use Rattle.anb_probe_commands.proofs.probing.probe_task.Goals as goal

pub returns-in-Ok-prepare-clause-comes : goal.returns-in-Ok-prepare-clause-comes
returns-in-Ok-prepare-clause-comes g c =
    let t = c.args.task.now in
    subst (λ (n : List ℕ). TaskComesTo (probing_by t.protocol t.role t.values t.seed) (trying_by c.args.words.trying) n (g.T.Trials.trial c.args.trials.now) (g.T.Trials.trial c.probe_over.new.trials)
    (g.W.Wire.state c.args.wire.now) (g.W.Wire.state c.probe_over.new.wire) c.probe_over.result) c.in-Ok.ensures
    (task_comes (probing_by t.protocol t.role t.values t.seed) (trying_by c.args.words.trying) c.in-Ok-prepare.prepared c.in-Ok-prepare.ensures.prepared c.in-Ok.name (g.T.Trials.trial c.args.trials.now) (g.T.Trials.trial c.probe_over.new.trials)
    (g.W.Wire.state c.args.wire.now) (g.W.Wire.state c.probe_over.new.wire) c.probe_over.result c.probe_over.ensures.comes)

pub returns-in-Err-clause-comes : goal.returns-in-Err-clause-comes
returns-in-Err-clause-comes g c = inl (c.in-Err.ensures.refused, refl, refl)

pub returns-in-Err-clause-over : goal.returns-in-Err-clause-over
returns-in-Err-clause-over g c =
    let t = c.args.task.now in
    over_refused (probing_by t.protocol t.role t.values t.seed) (trying_by c.args.words.trying) (g.T.Trials.trial c.args.trials.now) (g.W.Wire.state c.args.wire.now) c.in-Err.status c.in-Err.ensures.refused

pub returns-in-Err-clause-none_left : goal.returns-in-Err-clause-none_left
returns-in-Err-clause-none_left g c = none_left_at_first (g.T.Trials.trial c.args.trials.now) c.requires.untried

pub returns-in_default-clause-comes : goal.returns-in_default-clause-comes
returns-in_default-clause-comes g c = inl (inr refl, refl, refl)

pub returns-in_default-clause-over : goal.returns-in_default-clause-over
returns-in_default-clause-over g c = over_wanting (g.T.Trials.trial c.args.trials.now) (g.W.Wire.state c.args.wire.now)

pub returns-in_default-clause-none_left : goal.returns-in_default-clause-none_left
returns-in_default-clause-none_left g c = none_left_at_first (g.T.Trials.trial c.args.trials.now) c.requires.untried
