use Rattle.std.proofs.Common.{◌≡◌, ◌<◌, ◌⊎◌, ℕ, length, List}
use Rattle.anb_plays.specs.Codes.{Work}
use Rattle.anb_certify.specs.Classes.{AreNamed}
use Rattle.anb_certify.specs.Falling.{weight, AreLow}
use Rattle.anb_certify.specs.Links.{AreTiedLinks}
use Rattle.anb_certify.proofs.classes.tie_all.Given as goal

abbrev pub invariant-loop-link : goal.invariant-loop-link
invariant-loop-link l = record {
  long : length l.names ≡ length l.initial.names;
  low : AreLow l.names;
  falls : ((l.link-index ≡ 0) × (l.names ≡ l.initial.names)) ⊎ (weight l.names < weight l.initial.names);
  named : (did : List (ℕ × Work)) → AreNamed did l.initial.names → AreTiedLinks (length l.initial.names) did l.links → AreNamed did l.names;
}
