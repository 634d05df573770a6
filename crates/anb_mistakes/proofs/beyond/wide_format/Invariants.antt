use Rattle.std.proofs.Common.{◌≡◌, ◌+◌, drop, map}
use Rattle.anb_syntax.specs.Views.{format_of}
use Rattle.anb_mistakes.specs.Beyond.{wide_format}
use Rattle.anb_mistakes.proofs.beyond.wide_format.Given as goal

abbrev pub invariant-loop-i : goal.invariant-loop-i
invariant-loop-i l = l.i + wide_format (map format_of (drop l.i l.formats)) ≡ wide_format (map format_of l.formats)
