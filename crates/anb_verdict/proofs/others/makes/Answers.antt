use Rattle.std.proofs.Common.{sym, ap, ◌∙◌}
use Rattle.anb_term.specs.View.{tree_of}
use Rattle.anb_protocol.specs.Views.{plan_event}
use Rattle.anb_verdict.specs.Others.{makes}
use Rattle.anb_verdict.proofs.others.makes.Goals as goal

pub returns-in-Fresh : goal.returns-in-Fresh
returns-in-Fresh c = c.is_same.ensures ∙ ap (λ e. makes (tree_of c.args.t.now) (plan_event e)) (sym c.in-Fresh.is)
