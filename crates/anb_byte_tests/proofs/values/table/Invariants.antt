use Rattle.std.proofs.Common.{◌≡◌, vec_len}
use Rattle.anb_byte_tests.proofs.values.table.Given as goal

abbrev pub invariant-loop-text : goal.invariant-loop-text
invariant-loop-text l = vec_len l.table ≡ l.text-index
