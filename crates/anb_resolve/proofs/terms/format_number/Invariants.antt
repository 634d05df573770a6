use Rattle.std.proofs.Common.{◌≡◌, drop}
use Rattle.std.specs.List.{position_from}
use Rattle.std.specs.Str.{bytes_eq}
use Rattle.anb_format.specs.Formats.{FormatValue}
use Rattle.anb_resolve.proofs.terms.format_number.Given as goal

abbrev pub invariant-loop-i : goal.invariant-loop-i
invariant-loop-i l = position_from (λ (f : FormatValue). bytes_eq f.name l.name) l.i (drop l.i l.formats) ≡ position_from (λ (f : FormatValue). bytes_eq f.name l.name) 0 l.formats
