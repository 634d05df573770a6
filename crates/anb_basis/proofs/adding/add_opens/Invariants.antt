use Rattle.std.proofs.Common.{◌≡◌, ◌++◌, length, map, drop}
use Rattle.anb_close.specs.Entries.{openings_from}
use Rattle.anb_basis.specs.declared.check.Check.TheVariants.{Open}
use Rattle.anb_basis.specs.Checks.{IsGiven, OpensMarked, OpensUnmarked, MarksStay, After}
use Rattle.anb_basis.proofs.adding.add_opens.Given as goal

abbrev pub invariant-loop-f : goal.invariant-loop-f
invariant-loop-f l = record {
  more : After l.initial.given.items l.given.items;
  stay : MarksStay l.initial.marks.items l.marks.items;
  long : length l.marks.items ≡ length l.initial.marks.items;
  given : IsGiven l.entries l.given.items l.marks.items;
  opens : OpensMarked l.entries l.marks.items l.f;
  fresh : OpensUnmarked l.entries l.marks.items l.f;
  listed : l.given.items ++ map Open (openings_from l.f (drop l.f l.entries)) ≡ l.initial.given.items ++ map Open (openings_from l.from (drop l.from l.entries));
}
