use Rattle.std.proofs.Common.{◌≡◌, ◌++◌}
use Rattle.anb_partner.specs.Values.{initial_values}
use Rattle.anb_partner.proofs.valuing.put_handed.Given as goal

abbrev pub invariant-loop-value : goal.invariant-loop-value
invariant-loop-value l = l.out.items ++ l.value-iterator.rest.items ≡ l.initial.out.items ++ initial_values l.p l.atoms l.seed l.other
