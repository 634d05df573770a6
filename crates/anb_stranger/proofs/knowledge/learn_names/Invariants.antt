use Rattle.std.proofs.Common.{◌≡◌, ◌++◌, map, drop}
use Rattle.anb_term.specs.Tree.{leaf}
use Rattle.anb_stranger.proofs.knowledge.learn_names.Given as goal

abbrev pub invariant-loop-name : goal.invariant-loop-name
invariant-loop-name l = l.knowledge ++ map leaf (drop l.name-index l.names) ≡ l.initial.knowledge ++ map leaf l.names
