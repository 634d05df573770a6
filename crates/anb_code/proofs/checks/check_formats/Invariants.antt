use Rattle.std.proofs.Common.{◌≡◌, [], take, drop, All}
use Rattle.anb_format.specs.Formats.{IsSound, FormatValue}
use Rattle.anb_code.specs.Table.{faults_from, format_faults}
use Rattle.anb_code.proofs.checks.check_formats.Given as goal

abbrev pub invariant-loop-i : goal.invariant-loop-i
invariant-loop-i l = record {
  faults : faults_from format_faults (take l.i l.formats) (drop l.i l.formats) ≡ faults_from format_faults [] l.formats;
  sound : All (λ (format : FormatValue). IsSound format.pieces) (take l.i l.formats);
}
