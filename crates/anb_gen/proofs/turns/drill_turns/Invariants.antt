use Rattle.std.proofs.Common.{◌≡◌}
use Rattle.anb_gen.proofs.Growing.{turns_before}
use Rattle.anb_gen.proofs.turns.drill_turns.Given as goal

abbrev pub invariant-loop-i : goal.invariant-loop-i
invariant-loop-i l = l.turns.items ≡ turns_before l.i
