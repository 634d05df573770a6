use Rattle.std.proofs.Common.{◌≡◌, ◌∷◌, take}
use Rattle.anb_values.specs.Lines.{seed_label}
use Rattle.anb_value_mistakes.proofs.names.Names.new.Given as goal

abbrev pub invariant-loop-name : goal.invariant-loop-name
invariant-loop-name l = l.asked ≡ seed_label ∷ take l.name-index l.names
