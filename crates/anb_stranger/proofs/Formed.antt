-- Terms over some operators, and over all.
use Rattle.std.proofs.Common.{ℕ, List, [], ◌∷◌, ◌++◌, length, map, Bool, true, refl}
use Rattle.anb_term.specs.declared.term.Op.{Op}
use Rattle.anb_term.specs.Tree.{Tree, leaf, node, Trees, none, more, trees_of, IsFormed, AreFormed}
use Rattle.anb_protocol.specs.Protocols.{ProtocolValue}
use Rattle.anb_stranger.specs.Reaching.{agents, stranger, variables}

mutual
  pub any_formed : (has : Op → Bool) (t : Tree) → IsFormed has t → IsFormed (λ o. true) t
  any_formed has (leaf n) f = tt
  any_formed has (node o ts) f = (refl, f.1, all_any_formed has ts f.2)

  pub all_any_formed : (has : Op → Bool) (ts : Trees) → AreFormed has ts → AreFormed (λ o. true) ts
  all_any_formed has none f = tt
  all_any_formed has (more t ts) f = (any_formed has t f.0, all_any_formed has ts f.1)

pub atoms_formed : (has : Op → Bool) (ns : List ℕ) → AreFormed has (trees_of (map leaf ns))
atoms_formed has [] = tt
atoms_formed has (n ∷ ns) = (tt, atoms_formed has ns)

-- what a stranger has are atoms
pub stranger_formed : (p : ProtocolValue) (has : Op → Bool) (lines : List Tree) → AreFormed has (trees_of (stranger p lines))
stranger_formed p has lines = atoms_formed has (agents p ++ variables (length p.atoms) lines)
