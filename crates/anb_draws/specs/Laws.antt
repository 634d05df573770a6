-- What a role drew is told in one way.
use Rattle.std.specs.Prelude.{◌≡◌, ℕ}
use Rattle.anb_judge.specs.Verdicts.{Judged}
use Rattle.anb_draws.specs.Draws.{IsDrawn, Values, value_in}

-- of each name one value comes at most
abbrev pub DrawsOne : Type 0
DrawsOne = (judged : Judged) (one other : Values) → IsDrawn judged one → IsDrawn judged other → (name : ℕ) → value_in one name ≡ value_in other name
