use Rattle.std.proofs.Common.{◌≡◌, drop, map}
use Rattle.anb_text.specs.declared.lines.Line.TheVariants as line
use Rattle.anb_text.specs.RoleFiles.{lines_text}
use Rattle.anb_text.proofs.Written.{Due}
use Rattle.anb_text.proofs.printing.write_formats.Given as goal

abbrev pub invariant-loop-format : goal.invariant-loop-format
invariant-loop-format g l = record {
  due : Due (lines_text (map line.Format l.formats)) (g.K.Sink.written l.fn.snk) (g.K.Sink.written l.snk) (g.K.Sink.faults l.fn.snk) (g.K.Sink.faults l.snk) (lines_text (map line.Format (drop l.format-index l.formats)));
  kept : g.K.Sink.kept l.snk ≡ g.K.Sink.kept l.fn.snk;
}
