use Rattle.std.proofs.Common.{◌≡◌, drop, map}
use Rattle.anb_syntax.specs.Views.{tok_of}
use Rattle.anb_mistakes.specs.Spots.{long_name}
use Rattle.anb_mistakes.proofs.limits.long_name.Given as goal

abbrev pub invariant-loop-i : goal.invariant-loop-i
invariant-loop-i l = long_name (map (tok_of l.text) (drop l.i l.tokens)) ≡ long_name (map (tok_of l.text) l.tokens)
