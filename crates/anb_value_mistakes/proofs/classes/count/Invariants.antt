use Rattle.std.proofs.Common.{◌≡◌, ◌+◌, ◌-◌, ◌≤◌, length, drop}
use Rattle.anb_value_mistakes.specs.Classes.{count}
use Rattle.anb_value_mistakes.proofs.classes.count.Given as goal

abbrev pub invariant-counted : goal.invariant-counted
invariant-counted l = record { within : l.n ≤ length l.bytes; so_far : count l.class l.bytes ≡ l.n + count l.class (drop l.n l.bytes) }

abbrev pub decreases-counted : goal.decreases-counted
decreases-counted l = length l.bytes - l.n
