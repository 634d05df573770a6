use Rattle.std.proofs.Common.{◌≡◌, ◌++◌, map, take, drop}
use Rattle.anb_close.specs.Entries.{cut_first}
use Rattle.anb_close.proofs.growth.clear_from.Given as goal

abbrev pub invariant-loop-f : goal.invariant-loop-f
invariant-loop-f l = l.firsts ≡ map (cut_first l.at) (take l.f-index l.initial.firsts) ++ drop l.f-index l.initial.firsts
