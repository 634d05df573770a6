use Rattle.std.proofs.Common.{◌≡◌, ◌+◌, ◌-◌, ◌≤◌, length, drop}
use Rattle.std.specs.List.{prefix_len}
use Rattle.anb_syntax.specs.Words.{is_name_byte}
use Rattle.anb_syntax.proofs.tokens.name_end.Given as goal

abbrev pub invariant-name : goal.invariant-name
invariant-name l = record { low : l.from ≤ l.i; high : l.i ≤ length l.text; so_far : prefix_len is_name_byte (drop l.from l.text) + l.from ≡ prefix_len is_name_byte (drop l.i l.text) + l.i }

abbrev pub decreases-name : goal.decreases-name
decreases-name l = length l.text - l.i
