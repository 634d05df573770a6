use Rattle.std.proofs.Common.{◌≡◌, ◌-◌, ◌≤◌, length, drop}
use Rattle.anb_mistakes.specs.Near.{is_near}
use Rattle.anb_mistakes.proofs.near.is_near.Given as goal

abbrev pub invariant-same : goal.invariant-same
invariant-same l = record { first : l.i ≤ length l.a; second : l.i ≤ length l.b; rest : is_near (drop l.i l.a) (drop l.i l.b) ≡ is_near l.a l.b }

abbrev pub decreases-same : goal.decreases-same
decreases-same l = length l.a - l.i
