use Rattle.std.proofs.Common.{◌≡◌, ◌+◌, ◌-◌, ◌≤◌, length, drop}
use Rattle.anb_syntax.specs.Lexing.{comment_len}
use Rattle.anb_syntax.proofs.tokens.comment_end.Given as goal

abbrev pub invariant-line : goal.invariant-line
invariant-line l = record { low : l.from ≤ l.i; high : l.i ≤ length l.text; so_far : comment_len (drop l.from l.text) + l.from ≡ comment_len (drop l.i l.text) + l.i }

abbrev pub decreases-line : goal.decreases-line
decreases-line l = length l.text - l.i
