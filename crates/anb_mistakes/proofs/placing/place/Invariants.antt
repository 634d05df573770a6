use Rattle.std.proofs.Common.{◌≡◌, ◌+◌, ◌≤◌, drop}
use Rattle.anb_mistakes.specs.Places.{place_after}
use Rattle.anb_mistakes.proofs.placing.place.Given as goal

abbrev pub invariant-loop-b : goal.invariant-loop-b
invariant-loop-b l = record {
  rest : place_after l.line l.column (drop l.b-index l.b-items) ≡ place_after 1 1 l.b-items;
  line : l.line ≤ l.b-index + 1;
  column : l.column ≤ l.b-index + 1;
  first : 1 ≤ l.column;
}
