use Rattle.std.proofs.Common.{◌≡◌, replicate, None}
use Rattle.anb_honest.proofs.beginning.no_messages.Given as goal

abbrev pub invariant-loop : goal.invariant-loop
invariant-loop l = l.told.items ≡ replicate l.counter None
