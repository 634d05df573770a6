use Rattle.std.proofs.Common.{◌≡◌, ◌++◌, map, take}
use Rattle.anb_accept.specs.Equations.{own_equations}
use Rattle.anb_unify.specs.Views.{equation_value}
use Rattle.anb_accept.proofs.equation.put_own.Given as goal

abbrev pub invariant-loop-i : goal.invariant-loop-i
invariant-loop-i l = map equation_value l.out.items ≡ map equation_value l.initial.out.items ++ own_equations l.heard 0 (take l.i l.entries)
