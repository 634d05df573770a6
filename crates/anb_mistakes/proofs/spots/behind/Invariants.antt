use Rattle.std.proofs.Common.{◌≡◌, drop, map}
use Rattle.anb_syntax.specs.Views.{tok_of}
use Rattle.anb_mistakes.specs.Spots.{behind}
use Rattle.anb_mistakes.proofs.spots.behind.Given as goal

abbrev pub invariant-loop-i : goal.invariant-loop-i
invariant-loop-i l = behind l.one l.other (map (tok_of l.text) (drop l.i l.tokens)) ≡ behind l.one l.other (map (tok_of l.text) l.tokens)
