use Rattle.std.proofs.Common.{true, false, inl, inr, ⊎_elim}
use Rattle.anb_term.proofs.Lists.{set-at}
use Rattle.anb_basis.proofs.Marks.{given_more, marked_now}
use Rattle.anb_basis.proofs.adding.add_check.Goals as goal

pub returns-clause-ok : goal.returns-clause-ok
returns-clause-ok c es given fits = given_more es _ _ c.args.marks.now.items c.args.at c.args.check given fits c.requires.of c.requires.unmarked c.in_ok-push.ensures.items

pub returns-clause-marked : goal.returns-clause-marked
returns-clause-marked c = marked_now c.args.marks.now.items c.args.at false c.requires.unmarked

pub returns-clause-only : goal.returns-clause-only
returns-clause-only c k e = ⊎_elim (λ h. inl h.0) (λ h. inr h) (set-at c.args.marks.now.items c.args.at k true true e)
