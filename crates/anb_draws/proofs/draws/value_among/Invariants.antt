use Rattle.std.proofs.Common.{◌≡◌, drop}
use Rattle.anb_draws.specs.Telling.{value_among}
use Rattle.anb_draws.proofs.draws.value_among.Given as goal

abbrev pub invariant-loop-drawn : goal.invariant-loop-drawn
invariant-loop-drawn l = value_among (drop l.drawn-index l.draws) l.name ≡ value_among l.draws l.name
