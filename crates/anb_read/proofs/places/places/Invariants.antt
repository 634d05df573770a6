use Rattle.std.proofs.Common.{◌-◌, ◌≤◌, ◌++◌, List, length, drop}
use Rattle.anb_syntax.specs.Words.{Tok}
use Rattle.anb_syntax.specs.Lexing.{Lexes}
use Rattle.anb_read.specs.Places.{toks}
use Rattle.anb_read.proofs.places.places.Given as goal

abbrev pub invariant-tokens : goal.invariant-tokens
invariant-tokens l = record { high : l.from ≤ length l.text; so_far : (ts : List Tok) → Lexes l.from (drop l.from l.text) ts → Lexes 0 l.text (toks l.text l.all.items ++ ts) }

abbrev pub decreases-tokens : goal.decreases-tokens
decreases-tokens l = length l.text - l.from
