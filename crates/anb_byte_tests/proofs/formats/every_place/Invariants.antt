use Rattle.std.proofs.Common.{◌≡◌, ◌<◌, length, vec_len}
use Rattle.std.specs.List.{AllByRecursion}
use Rattle.anb_byte_tests.proofs.formats.every_place.Given as goal

abbrev pub invariant-loop-i : goal.invariant-loop-i
invariant-loop-i l = record {
  count : length l.places.items ≡ l.i;
  within : AllByRecursion (λ k. k < vec_len l.table) l.places.items;
}
