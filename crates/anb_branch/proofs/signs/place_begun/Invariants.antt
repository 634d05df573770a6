use Rattle.std.proofs.Common.{◌≡◌, ℕ, List, drop}
use Rattle.std.specs.List.{position_from}
use Rattle.anb_branch.specs.Taken.{begins_arm}
use Rattle.anb_branch.specs.Signs.{AreSigns}
use Rattle.anb_branch.proofs.signs.place_begun.Given as goal

abbrev pub invariant-loop-i : goal.invariant-loop-i
invariant-loop-i l = (role : List ℕ) → AreSigns l.b.stem role l.b.arms.items l.signs
    → position_from (begins_arm l.b.stem role l.arrival) 0 l.b.arms.items ≡ position_from (begins_arm l.b.stem role l.arrival) l.i (drop l.i l.b.arms.items)
