use Rattle.std.proofs.Common.{length}
use Rattle.anb_format.specs.Literals.{AreCharactersAt}
use Rattle.anb_format.proofs.literals.characters.Given as goal

abbrev pub invariant-loop-byte : goal.invariant-loop-byte
invariant-loop-byte l = AreCharactersAt l.text l.bytes.items l.rest

abbrev pub decreases-loop-byte : goal.decreases-loop-byte
decreases-loop-byte l = length l.rest
