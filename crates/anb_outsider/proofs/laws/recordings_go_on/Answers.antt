-- As far as each that is received the values follow the terms, and a new name changes nothing.
use Rattle.anb_outsider.proofs.GoingOn.{recordings_go_on}
use Rattle.anb_outsider.proofs.laws.recordings_go_on.Goals as goal

pub returns : goal.returns
returns g c = recordings_go_on (g.A.Algebra.meaning c.args.a.now) c.honest_agree.ensures c.one_value_is_given.ensures c.new_atom_agrees.ensures
