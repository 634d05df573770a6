use Rattle.std.proofs.Common.{◌≡◌, drop}
use Rattle.std.specs.List.{list_any}
use Rattle.anb_value_mistakes.specs.Mistakes.{is_faulty}
use Rattle.anb_value_mistakes.specs.declared.reading.ReadLine.{ReadLine}
use Rattle.anb_value_mistakes.proofs.telling.has_faulty.Given as goal

abbrev pub invariant-loop-read : goal.invariant-loop-read
invariant-loop-read l = list_any (λ (read : ReadLine). is_faulty read.said) (drop l.read-index l.reads) ≡ list_any (λ (read : ReadLine). is_faulty read.said) l.reads
