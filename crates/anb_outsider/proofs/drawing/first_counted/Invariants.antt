use Rattle.std.proofs.Common.{◌≡◌, ℕ, take, Some}
use Rattle.std.specs.Prelude.{slice_get}
use Rattle.anb_outsider.specs.Searching.{IsUncounted}
use Rattle.anb_outsider.proofs.drawing.first_counted.Given as goal

abbrev pub invariant-loop-name : goal.invariant-loop-name
invariant-loop-name l = (i n : ℕ) → slice_get (take l.name-index l.names) i ≡ Some n → IsUncounted l.counts n
