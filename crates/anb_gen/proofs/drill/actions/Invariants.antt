use Rattle.std.proofs.Common.{◌≡◌, map}
use Rattle.anb_syntax.specs.Views.{action_of}
use Rattle.anb_gen.proofs.Growing.{before_exchange}
use Rattle.anb_gen.proofs.drill.actions.Given as goal

abbrev pub invariant-loop-i : goal.invariant-loop-i
invariant-loop-i l = map action_of l.actions.items ≡ before_exchange l.i
