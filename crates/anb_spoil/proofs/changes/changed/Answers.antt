use Rattle.std.proofs.Common.{sym, ◌∙◌}
use Rattle.anb_spoil.proofs.Changing.{changes_differ}
use Rattle.anb_spoil.proofs.changes.changed.Goals as goal

pub returns-in-Some-clause-differs : goal.returns-in-Some-clause-differs
returns-in-Some-clause-differs c = λ e.
    changes_differ c.args.change c.args.bytes.now c.in-Some.wrong.items (sym (rw c.in-Some.is at c.in_ok-wrong.ensures)) (sym c.string.ensures.value ∙ e)
