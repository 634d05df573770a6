-- What the types of the code stand for.
use Rattle.anb_term.specs.View.{tree_of}
use Rattle.anb_unify.specs.declared.equation.Equation.{Equation}
use Rattle.anb_unify.specs.Equations.{EquationValue}

abbrev pub equation_value : Equation → EquationValue
equation_value q = record { variable = q.variable; term = tree_of q.term }
