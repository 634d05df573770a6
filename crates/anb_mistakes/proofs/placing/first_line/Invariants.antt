use Rattle.std.proofs.Common.{◌≡◌, ◌+◌, ◌-◌, ◌≤◌, length, drop}
use Rattle.std.specs.List.{prefix_len}
use Rattle.anb_mistakes.specs.Places.{is_inner}
use Rattle.anb_mistakes.proofs.placing.first_line.Given as goal

abbrev pub invariant-line : goal.invariant-line
invariant-line l = record { within : l.n ≤ length l.text; so_far : prefix_len is_inner l.text ≡ l.n + prefix_len is_inner (drop l.n l.text) }

abbrev pub decreases-line : goal.decreases-line
decreases-line l = length l.text - l.n
