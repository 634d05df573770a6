use Rattle.std.proofs.Common.{◌≡◌, ◌∷◌, take}
use Rattle.anb_values.specs.Lines.{seed_label}
use Rattle.anb_values.proofs.entries.asked_labels.Given as goal

abbrev pub invariant-loop-name : goal.invariant-loop-name
invariant-loop-name l = l.asked ≡ seed_label ∷ take l.name-index l.names
