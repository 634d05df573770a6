use Rattle.std.proofs.Common.{◌≡◌, ◌++◌, drop}
use Rattle.std.specs.List.{flat_map}
use Rattle.anb_term.specs.Tree.{Tree}
use Rattle.std.specs.Prelude.{List}
use Rattle.anb_protocol.specs.Texts.{atoms_in_each}
use Rattle.anb_protocol.proofs.parts.Parts.known_atoms.Given as goal

abbrev pub invariant-loop-terms : goal.invariant-loop-terms
invariant-loop-terms l = l.atoms.items ++ atoms_in_each (flat_map (λ (ts : List Tree). ts) (drop l.terms-index l.self.knows.items)) ≡ atoms_in_each (flat_map (λ (ts : List Tree). ts) l.self.knows.items)
