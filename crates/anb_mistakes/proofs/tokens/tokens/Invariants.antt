use Rattle.std.proofs.Common.{◌-◌, ◌≤◌, ◌++◌, List, length, drop, map}
use Rattle.anb_syntax.specs.Words.{Tok}
use Rattle.anb_syntax.specs.Lexing.{Lexes}
use Rattle.anb_syntax.specs.Views.{tok_of}
use Rattle.anb_mistakes.proofs.tokens.tokens.Given as goal

abbrev pub invariant-tokens : goal.invariant-tokens
invariant-tokens l = record {
  high : l.from ≤ length l.text;
  few : length l.all.items ≤ l.from;
  so_far : (ts : List Tok) → Lexes l.from (drop l.from l.text) ts → Lexes 0 l.text (map (tok_of l.text) l.all.items ++ ts);
}

abbrev pub decreases-tokens : goal.decreases-tokens
decreases-tokens l = length l.text - l.from
