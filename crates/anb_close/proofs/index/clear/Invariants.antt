use Rattle.std.proofs.Common.{◌≡◌, ◌++◌, map, take, drop}
use Rattle.anb_close.specs.Standings.{cleared}
use Rattle.anb_close.proofs.index.clear.Given as goal

abbrev pub invariant-loop-n : goal.invariant-loop-n
invariant-loop-n l = l.standings.items ≡ map (cleared l.at) (take l.n l.initial.standings.items) ++ drop l.n l.initial.standings.items
