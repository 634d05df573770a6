use Rattle.std.proofs.Common.{◌≡◌, ◌<◌, ◌⊎◌, ℕ, length, List, Some}
use Rattle.std.specs.Prelude.{slice_get}
use Rattle.anb_plays.specs.Codes.{Work}
use Rattle.anb_certify.specs.Classes.{AreNamed}
use Rattle.anb_certify.specs.Falling.{AreFlat}
use Rattle.anb_certify.specs.Tied.{Tied}
use Rattle.anb_certify.proofs.classes.root.Given as goal

abbrev pub invariant-loop-at : goal.invariant-loop-at
invariant-loop-at l = record {
  within : l.at < length l.names;
  first : AreFlat l.names → (l.at ≡ l.from) ⊎ (slice_get l.names l.from ≡ Some l.at);
  tied : (did : List (ℕ × Work)) → AreNamed did l.names → Tied did l.from l.at;
}

abbrev pub decreases-loop-at : goal.decreases-loop-at
decreases-loop-at l = l.at
