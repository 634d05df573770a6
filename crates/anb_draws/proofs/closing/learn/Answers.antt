use Rattle.std.proofs.Common.{◌≡◌, ◌++◌, ap, sym, ◌∙◌, subst}
use Rattle.std.specs.Prelude.{OnOk}
use Rattle.anb_close.specs.Entries as entries
use Rattle.anb_protocol.specs.Views.{plan_event}
use Rattle.anb_compile.specs.Unsent.{label_of}
use Rattle.anb_compile.proofs.Doing.{one_more_label}
use Rattle.anb_draws.proofs.closing.learn.Goals as goal
use Rattle.anb_draws.proofs.closing.learn.Goals.{in-Ok, in-Err}

pub returns-after-add : goal.returns-after-add
returns-after-add c = elim c.match-add.branch [
  | in-Ok w ↦ subst (λ r. OnOk r (entries.labels_of c.add.new.self ≡ entries.labels_of c.args.closure.now ++ label_of (plan_event c.args.event.now))) (sym w.result-is)
      (one_more_label c.args.closure.now c.add.new.self c.in-Some.term.now w.in-Ok.ensures.ok ∙ ap (λ l. entries.labels_of c.args.closure.now ++ l) (sym c.in-Some.ensures))
  | in-Err w ↦ subst (λ r. OnOk r (entries.labels_of c.add.new.self ≡ entries.labels_of c.args.closure.now ++ label_of (plan_event c.args.event.now))) (sym w.result-is) tt
]
