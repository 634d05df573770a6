use Rattle.std.proofs.Common.{◌≡◌, ◌++◌, map, take}
use Rattle.anb_accept.specs.Equations.{equation_of}
use Rattle.anb_unify.specs.Views.{equation_value}
use Rattle.anb_accept.proofs.equation.put_checks.Given as goal

abbrev pub invariant-loop-check : goal.invariant-loop-check
invariant-loop-check l = map equation_value l.out.items ≡ map equation_value l.initial.out.items ++ map (equation_of l.names) (take l.check-index l.checks)
