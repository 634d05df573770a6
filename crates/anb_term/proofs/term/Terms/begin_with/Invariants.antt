use Rattle.std.proofs.Common.{◌≡◌, take}
use Rattle.anb_term.specs.Lawful.{picked}
use Rattle.anb_term.proofs.term.Terms.begin_with.Given as goal

abbrev pub invariant-loop-k : goal.invariant-loop-k
invariant-loop-k l = picked l.table (take l.k l.at) ≡ take l.k l.self-inside.items.items
