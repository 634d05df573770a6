use Rattle.std.proofs.Common.{◌≡◌, ◌∷◌, take}
use Rattle.std.specs.List.{flat_map}
use Rattle.anb_format.specs.Literals.{canonical_spelling}
use Rattle.anb_format.proofs.literals.literal_text.Given as goal

abbrev pub invariant-loop-byte : goal.invariant-loop-byte
invariant-loop-byte l = l.text.items ≡ 34 ∷ flat_map canonical_spelling (take l.byte-index l.bytes)
