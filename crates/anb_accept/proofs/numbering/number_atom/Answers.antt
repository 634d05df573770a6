-- An atom's number.
use Rattle.std.proofs.Common.{sym, subst, arith}
use Rattle.anb_term.specs.Tree.{leaf}
use Rattle.anb_accept.specs.Renaming.{GotNumbers}
use Rattle.anb_accept.proofs.Renaming.{atom_numbered}
use Rattle.anb_accept.proofs.numbering.number_atom.Goals as goal

pub returns : goal.returns
returns c =
    let names = c.args.names in
    let n = c.args.n in
    let old = c.args.pool.now in
    let new = c.put.new.self in
    subst (λ m. GotNumbers names old new (leaf n) (leaf m)) (sym c.in_ok-variable.ensures)
    (atom_numbered names old new n c.in_ok-id.id.0 (omega arith) c.in_ok-id.ensures.put c.in_ok-id.ensures.stored c.len-2.ensures.distinct)
