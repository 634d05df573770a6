use Rattle.std.proofs.Common.{◌≡◌, ◌+◌, ◌≤◌, List, ℕ, drop, map}
use Rattle.anb_syntax.specs.Views.{tok_of}
use Rattle.anb_mistakes.specs.Spots.{commas}
use Rattle.anb_mistakes.proofs.tokens.commas.Given as goal

abbrev pub invariant-loop-token : goal.invariant-loop-token
invariant-loop-token l = record {
  counted : (text : List ℕ) → l.count + commas (map (tok_of text) (drop l.token-index l.tokens)) l.depth ≡ commas (map (tok_of text) l.tokens) 0;
  most : l.count + l.depth ≤ l.token-index;
}
