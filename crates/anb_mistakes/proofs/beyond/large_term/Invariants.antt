use Rattle.std.proofs.Common.{◌≡◌, ◌+◌, drop, map}
use Rattle.anb_syntax.specs.Views.{tree_of}
use Rattle.anb_protocol.specs.Views.{pointed}
use Rattle.anb_mistakes.specs.Beyond.{large_term}
use Rattle.anb_mistakes.proofs.beyond.large_term.Given as goal

abbrev pub invariant-loop-i : goal.invariant-loop-i
invariant-loop-i l = l.i + large_term l.most (map tree_of (pointed (drop l.i l.terms))) ≡ large_term l.most (map tree_of (pointed l.terms))
