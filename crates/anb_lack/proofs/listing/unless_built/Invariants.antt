use Rattle.std.proofs.Common.{◌≡◌, ◌++◌, drop}
use Rattle.anb_lack.specs.Before.{unless_built}
use Rattle.anb_lack.proofs.listing.unless_built.Given as goal

abbrev pub invariant-loop-i : goal.invariant-loop-i
invariant-loop-i l = l.origins.items ++ unless_built (drop l.i l.out) (drop l.i l.came) ≡ unless_built l.out l.came
