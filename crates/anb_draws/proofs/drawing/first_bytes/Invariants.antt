use Rattle.std.proofs.Common.{◌≡◌, ◌++◌, map, take, drop}
use Rattle.std.specs.List.{AllByRecursion}
use Rattle.anb_base.specs.Bytes.{IsBytes}
use Rattle.anb_judge.specs.Verdicts.{line_bytes}
use Rattle.anb_draws.proofs.drawing.first_bytes.Given as goal

abbrev pub invariant-loop-line : goal.invariant-loop-line
invariant-loop-line l = record {
  same : l.bytes.items ++ map line_bytes (take l.left (drop l.line-index l.lines)) ≡ map line_bytes (take l.n l.lines);
  bytes : AllByRecursion IsBytes l.bytes.items;
}
