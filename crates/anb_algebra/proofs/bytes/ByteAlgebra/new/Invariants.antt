use Rattle.std.proofs.Common.{◌≡◌, ◌<◌, ℕ, Some, true}
use Rattle.std.specs.Prelude.{slice_get}
use Rattle.anb_format.specs.Formats.{FormatValue}
use Rattle.anb_format.specs.Formats.{is_sound}
use Rattle.anb_algebra.proofs.bytes.ByteAlgebra.new.Given as goal

abbrev pub invariant-loop-format : goal.invariant-loop-format
invariant-loop-format l = (k : ℕ) → k < l.format-index → (format : FormatValue) → slice_get l.formats k ≡ Some format → is_sound format.pieces ≡ true
