use Rattle.std.proofs.Common.{◌≡◌, ◌++◌, drop}
use Rattle.anb_term.proofs.term.Terms.copy_from.Given as goal

abbrev pub invariant-loop-k : goal.invariant-loop-k
invariant-loop-k l = l.rest.items ++ drop l.k l.self-inside.items.items ≡ drop l.start l.self-inside.items.items
