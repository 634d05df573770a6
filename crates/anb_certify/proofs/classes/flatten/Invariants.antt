use Rattle.std.proofs.Common.{◌≡◌, ◌≤◌, ℕ, length, List}
use Rattle.anb_plays.specs.Codes.{Work}
use Rattle.anb_certify.specs.Classes.{AreNamed}
use Rattle.anb_certify.specs.Falling.{weight, AreLow}
use Rattle.anb_certify.proofs.Falling.{AreFlatBelow}
use Rattle.anb_certify.proofs.classes.flatten.Given as goal

abbrev pub invariant-loop-i : goal.invariant-loop-i
invariant-loop-i l = record {
  long : length l.names ≡ length l.initial.names;
  low : AreLow l.names;
  flat : AreFlatBelow l.names l.i;
  less : weight l.names ≤ weight l.initial.names;
  named : (did : List (ℕ × Work)) → AreNamed did l.initial.names → AreNamed did l.names;
}
