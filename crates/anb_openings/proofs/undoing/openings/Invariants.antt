use Rattle.std.specs.List.{All}
use Rattle.anb_openings.specs.Openings.{HasOpening}
use Rattle.anb_openings.proofs.Listing.{ListedTo}
use Rattle.anb_openings.proofs.undoing.openings.Given as goal

abbrev pub invariant-loop-i : goal.invariant-loop-i
invariant-loop-i l = record {
  are : ListedTo l.code l.i l.came l.openings.items;
  each : All (HasOpening l.code) l.openings.items;
}
