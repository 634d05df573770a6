use Rattle.std.proofs.Common.{sym, ap, ◌∙◌}
use Rattle.anb_term.specs.View.{tree_of}
use Rattle.anb_protocol.specs.Views.{plan_event}
use Rattle.anb_verdict.specs.Others.{knows}
use Rattle.anb_verdict.proofs.others.knows.Goals as goal

pub returns-in-Know : goal.returns-in-Know
returns-in-Know c = c.is_same.ensures ∙ ap (λ e. knows (tree_of c.args.t.now) (plan_event e)) (sym c.in-Know.is)
