use Rattle.std.proofs.Common.{map, take}
use Rattle.std.specs.List.{AllByRecursion}
use Rattle.anb_base.specs.Bytes.{IsBytes}
use Rattle.anb_judge.specs.Verdicts.{line_bytes}
use Rattle.anb_tries.proofs.bytes.lines_are_bytes.Given as goal

abbrev pub invariant-loop-line : goal.invariant-loop-line
invariant-loop-line l = AllByRecursion IsBytes (map line_bytes (take l.line-index l.lines))
