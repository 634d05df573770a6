use Rattle.std.proofs.Common.{◌≡◌, ◌-◌, ◌≤◌, ◌++◌, length, take, drop, map}
use Rattle.anb_syntax.specs.Views.{tok_of}
use Rattle.anb_mistakes.specs.Spots.{before_uses}
use Rattle.anb_mistakes.proofs.spots.before_uses.Given as goal

abbrev pub invariant-types : goal.invariant-types
invariant-types l = record {
  within : l.n ≤ length l.tokens;
  so_far : map (tok_of l.text) (take l.n l.tokens) ++ before_uses (map (tok_of l.text) (drop l.n l.tokens)) ≡ before_uses (map (tok_of l.text) l.tokens);
}

abbrev pub decreases-types : goal.decreases-types
decreases-types l = length l.tokens - l.n
