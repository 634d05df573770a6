use Rattle.std.proofs.Common.{sym}
use Rattle.anb_spoil.proofs.Refusing.{rows_refused}
use Rattle.anb_spoil.proofs.spoils.spoil.Goals as goal

pub returns-in-Some-clause-refused : goal.returns-in-Some-clause-refused
returns-in-Some-clause-refused c = λ others h.
    rows_refused c.args.format.now.pieces c.tell.ensures.sound.rest_is_last c.args.row c.args.parts.now c.requires c.tell.ensures.strings c.in-Some.wrong.items
    (sym (rw c.in-Some.is at c.in_ok-wrong.ensures)) others (rw c.string.ensures.value at h)
