use Rattle.std.proofs.Common.{◌≡◌, ◌++◌, map, drop}
use Rattle.anb_protocol.specs.Texts.{atom_name}
use Rattle.anb_protocol.specs.Views.{value_of}
use Rattle.anb_protocol.proofs.parts.Parts.atom_texts.Given as goal

abbrev pub invariant-loop-a : goal.invariant-loop-a
invariant-loop-a l = l.names.items ++ map (atom_name (value_of l.self)) (drop l.a-index l.atoms) ≡ map (atom_name (value_of l.self)) l.atoms
