use Rattle.std.proofs.Common.{◌≡◌, length, drop}
use Rattle.anb_text.specs.Reading.{texts}
use Rattle.anb_text.proofs.ReadFacts.{IsPassed}
use Rattle.anb_text.proofs.reading.read_registers.Given as goal

abbrev pub invariant-loop-word : goal.invariant-loop-word
invariant-loop-word l = (length l.registers.items ≡ l.word-index) × IsPassed (texts l.words) l.registers.items (texts (drop l.word-index l.words))
