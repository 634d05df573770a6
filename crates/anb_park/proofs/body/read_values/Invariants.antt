use Rattle.std.proofs.Common.{◌≡◌, ℕ, List, take, drop}
use Rattle.anb_park.specs.Going.{AreFrames}
use Rattle.anb_park.proofs.body.read_values.Given as goal

abbrev pub invariant-loop : goal.invariant-loop
invariant-loop l = (bs : List (List ℕ)) → AreFrames l.fn.frames bs → (l.values.items ≡ take l.counter bs) × AreFrames l.rest (drop l.counter bs)
