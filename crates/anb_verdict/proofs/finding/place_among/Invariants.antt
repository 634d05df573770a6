use Rattle.std.proofs.Common.{◌≡◌, ◌+◌, ◌≤◌, map, drop}
use Rattle.anb_term.specs.View.{tree_of}
use Rattle.anb_verdict.specs.Places.{place_from}
use Rattle.anb_verdict.proofs.finding.place_among.Given as goal

abbrev pub invariant-loop-i : goal.invariant-loop-i
invariant-loop-i l = record {
  found : place_from l.spare (l.i + 1) (drop l.i l.sides) (map tree_of (drop l.heard l.arrivals)) ≡ place_from l.spare 1 l.sides (map tree_of l.arrivals);
  heard : l.heard ≤ l.i;
}
