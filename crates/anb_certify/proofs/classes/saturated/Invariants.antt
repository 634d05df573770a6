use Rattle.std.proofs.Common.{◌≡◌, length, map}
use Rattle.anb_certify.specs.Classes.{AreNamed}
use Rattle.anb_certify.specs.Falling.{weight, AreFlat, AreLow}
use Rattle.anb_certify.specs.Works.{did_of}
use Rattle.anb_certify.proofs.classes.saturated.Given as goal

abbrev pub invariant-loop-names : goal.invariant-loop-names
invariant-loop-names l = record {
  long : length l.names.items ≡ length l.initial.names.items;
  low : AreLow l.names.items;
  flat : AreFlat l.names.items;
  named : AreNamed (map did_of l.done) l.names.items;
}

abbrev pub decreases-loop-names : goal.decreases-loop-names
decreases-loop-names l = weight l.names.items
