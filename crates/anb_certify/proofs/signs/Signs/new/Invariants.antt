use Rattle.std.proofs.Common.{◌≡◌, map, take}
use Rattle.anb_term.specs.Tree.{leaf}
use Rattle.anb_term.specs.View.{tree_of}
use Rattle.anb_certify.proofs.signs.Signs.new.Given as goal

abbrev pub invariant-loop-name : goal.invariant-loop-name
invariant-loop-name l = map tree_of l.atoms.items ≡ map leaf (take l.name-index l.names)
