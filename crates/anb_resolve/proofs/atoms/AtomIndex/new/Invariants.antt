use Rattle.std.proofs.Common.{◌≡◌, map, take}
use Rattle.std.specs.List.{flat_map}
use Rattle.anb_protocol.specs.declared.parts.Atom.{Atom}
use Rattle.anb_protocol.specs.Checks.{agent_names}
use Rattle.anb_resolve.proofs.atoms.AtomIndex.new.Given as goal

abbrev pub invariant-loop-atom : goal.invariant-loop-atom
invariant-loop-atom l = record {
  names : l.names ≡ map (λ (a : Atom). a.name) (take l.atom-index l.atoms);
  agents : l.agents ≡ flat_map agent_names (take l.atom-index l.atoms);
}
