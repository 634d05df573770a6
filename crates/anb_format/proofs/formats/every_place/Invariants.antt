use Rattle.std.proofs.Common.{◌≡◌, ◌<◌, filter_map, length, slice_get, take, vec_len}
use Rattle.std.specs.List.{AllByRecursion}
use Rattle.anb_format.proofs.formats.every_place.Given as goal

abbrev pub invariant-loop-i : goal.invariant-loop-i
invariant-loop-i l = record {
  count : length l.places.items ≡ l.i;
  within : AllByRecursion (λ k. k < vec_len l.table) l.places.items;
  taken : filter_map (slice_get l.table.items) l.places.items ≡ take l.i l.table.items;
}
