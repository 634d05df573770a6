use Rattle.std.proofs.Common.{◌≡◌, ◌<◌, ◌++◌, ◌^◌, length, All}
use Rattle.anb_format.specs.Formats.{FormatValue, IsSound}
use Rattle.anb_code.proofs.spelling.formats_of.Given as goal

abbrev pub invariant-loop-format : goal.invariant-loop-format
invariant-loop-format l = record {
  pieces : All (λ (format : FormatValue). length format.pieces < 2 ^ 32) l.format-iterator.rest.items;
  sound : All (λ (format : FormatValue). IsSound format.pieces) l.format-iterator.rest.items;
  joined : l.formats.items ++ l.format-iterator.rest.items ≡ l.fn.raw.items;
  left : l.format-iterator.rest.len ≡ length l.format-iterator.rest.items;
}
