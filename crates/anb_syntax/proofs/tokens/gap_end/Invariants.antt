use Rattle.std.proofs.Common.{◌≡◌, ◌+◌, ◌-◌, ◌≤◌, length, drop}
use Rattle.anb_syntax.specs.Lexing.{gap_len}
use Rattle.anb_syntax.proofs.tokens.gap_end.Given as goal

abbrev pub invariant-gap : goal.invariant-gap
invariant-gap l = record { high : l.i ≤ length l.text; so_far : gap_len (drop l.from l.text) + l.from ≡ gap_len (drop l.i l.text) + l.i }

abbrev pub decreases-gap : goal.decreases-gap
decreases-gap l = length l.text - l.i
