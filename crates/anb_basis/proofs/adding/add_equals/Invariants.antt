use Rattle.std.proofs.Common.{◌≡◌, length}
use Rattle.anb_basis.specs.Checks.{IsGiven, EqualsMarked, MarksStay, After, AfterEquals}
use Rattle.anb_basis.proofs.Listing.{ListedMarked}
use Rattle.anb_basis.proofs.adding.add_equals.Given as goal

abbrev pub invariant-loop-i : goal.invariant-loop-i
invariant-loop-i l = record {
  more : After l.fn.given.items l.given.items;
  stay : MarksStay l.fn.marks.items l.marks.items;
  long : length l.marks.items ≡ length l.fn.marks.items;
  given : IsGiven l.closure l.given.items l.marks.items;
  compared : AfterEquals l.fn.given.items l.given.items;
  each : ListedMarked l.closure l.touched l.from l.marks.items l.i-index;
}

abbrev pub invariant-loop-at : goal.invariant-loop-at
invariant-loop-at l = record {
  more : After l.fn.given.items l.given.items;
  stay : MarksStay l.fn.marks.items l.marks.items;
  long : length l.marks.items ≡ length l.fn.marks.items;
  given : IsGiven l.closure l.given.items l.marks.items;
  compared : AfterEquals l.fn.given.items l.given.items;
  equals : EqualsMarked l.closure l.marks.items l.at;
}
