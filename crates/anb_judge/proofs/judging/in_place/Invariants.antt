use Rattle.std.proofs.Common.{◌≡◌, ◌++◌, drop}
use Rattle.std.specs.List.{AllByRecursion}
use Rattle.anb_base.specs.Bytes.{IsBytes}
use Rattle.anb_judge.specs.Verdicts.{in_place}
use Rattle.anb_judge.proofs.judging.in_place.Given as goal

abbrev pub invariant-loop-i : goal.invariant-loop-i
invariant-loop-i l = record {
  placed : l.arrivals.items ++ in_place (drop l.i l.sides) (drop l.i l.lines) ≡ in_place l.sides l.lines;
  bytes : AllByRecursion IsBytes l.arrivals.items;
}
