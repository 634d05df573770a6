use Rattle.anb_term.proofs.NewAtom.{new_atom_agrees}
use Rattle.anb_term.proofs.laws.new_atom_agrees.Goals as goal

pub returns : goal.returns
returns g c = new_atom_agrees (g.A.Algebra.meaning c.args.a.now) (g.met.A.Algebra.lawful c.args.a.now)
