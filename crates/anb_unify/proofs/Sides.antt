-- One equation of a list whose sides stand in a pool.
use Rattle.std.proofs.Common.{◌≡◌, ℕ, ◌+◌, ◌<◌, List, length, map, get_or, Some, sym, ap, ◌∙◌, arith}
use Rattle.std.specs.Prelude.{slice_get}
use Rattle.anb_lemmas.proofs.Lists.{got_within}
use Rattle.anb_lemmas.proofs.Each.{each_got}
use Rattle.anb_term.specs.declared.term.Term.{Term}
use Rattle.anb_term.specs.Tree.{Tree, leaf}
use Rattle.anb_term.specs.View.{tree_of}
use Rattle.anb_term.proofs.Lists.{slice_get-map}
use Rattle.anb_intern.specs.declared.node.NodeId.{NodeId}
use Rattle.anb_unify.specs.declared.equation.Equation.{Equation}
use Rattle.anb_unify.specs.Substitutions.{put_in}
use Rattle.anb_unify.specs.Views.{equation_value}
use Rattle.anb_unify.specs.Equations.{EquationValue, IsSolution, Solves, HasSolution, AreOfVariables}
use Rattle.anb_unify.specs.Classes.{SameAt, Respects, Stands, AreNarrated}
use Rattle.anb_unify.specs.Solving.{AreAt, first_variables, terms_of_equations}
use Rattle.anb_unify.proofs.Steps.{at_long, variables_long, variable_at, id_at}

module _ (names : ℕ) (ts : List Tree) (narrated : List Term) (variables sides : List NodeId) (qs : List Equation)
    (variables_at : AreAt ts variables (first_variables names (length narrated))) (sides_at : AreAt ts sides (terms_of_equations (map equation_value qs)))
    (own : AreOfVariables (length narrated) (map equation_value qs)) (i : ℕ) (q : Equation) (at : slice_get qs i ≡ Some q) where
  value_at : slice_get (map equation_value qs) i ≡ Some (equation_value q)
  value_at = slice_get-map equation_value qs i q at

  pub variable_within : q.variable < length narrated
  variable_within = each_got (λ (x : EquationValue). x.variable < length narrated) (map equation_value qs) i (equation_value q) own value_at

  pub variables_within : q.variable < length variables
  variables_within = omega (arith, variable_within, at_long ts variables (first_variables names (length narrated)) variables_at, variables_long names (length narrated))

  side_term : slice_get (terms_of_equations (map equation_value qs)) i ≡ Some (tree_of q.term)
  side_term = slice_get-map (λ (x : EquationValue). x.term) (map equation_value qs) i (equation_value q) value_at

  pub sides_within : i < length sides
  sides_within = omega (arith, at_long ts sides (terms_of_equations (map equation_value qs)) sides_at, got_within (terms_of_equations (map equation_value qs)) i (tree_of q.term) side_term)

  pub variable_here : (d : NodeId) → slice_get ts (get_or variables q.variable d).0 ≡ Some (leaf (names + q.variable))
  variable_here d = id_at ts variables (first_variables names (length narrated)) q.variable d (leaf (names + q.variable)) variables_at (variable_at names (length narrated) q.variable variable_within)

  pub side_here : (d : NodeId) → slice_get ts (get_or sides i d).0 ≡ Some (tree_of q.term)
  side_here d = id_at ts sides (terms_of_equations (map equation_value qs)) i d (tree_of q.term) sides_at side_term

  solves_here : (put : ℕ → Tree) → IsSolution names (map equation_value qs) put → put (names + q.variable) ≡ put_in put (tree_of q.term)
  solves_here put s = each_got (Solves names put) (map equation_value qs) i (equation_value q) s.solves value_at

  module _ (d : NodeId) where
    stands_by : (put : ℕ → Tree) (x : ℕ) (w t : Tree) → slice_get ts x ≡ Some w → put_in put w ≡ t → Stands ts put x t
    stands_by put x w t e h u au = let s : w ≡ u = cc in ap (put_in put) (sym s) ∙ h

    pub narrated_here : (given : HasSolution names (map tree_of narrated) (map equation_value qs)) (parents : List NodeId) (t : Term) → slice_get narrated q.variable ≡ Some t → Respects ts (put_in given.put) parents
        → AreNarrated names ts parents (get_or variables q.variable d).0 (get_or sides i d).0 (tree_of t)
    narrated_here given parents t at_t respects = record {
      put = given.put;
      keeps = given.solution.keeps;
      respects = respects;
      one_is = stands_by given.put (get_or variables q.variable d).0 (leaf (names + q.variable)) (tree_of t) (variable_here d) (given.each q.variable (tree_of t) (slice_get-map tree_of narrated q.variable t at_t));
      other_is = stands_by given.put (get_or sides i d).0 (tree_of q.term) (tree_of t) (side_here d) (sym (solves_here given.put given.solution) ∙ given.each q.variable (tree_of t) (slice_get-map tree_of narrated q.variable t at_t));
    }

    pub same_here : (f : Tree → Tree) → SameAt ts f (get_or variables q.variable d).0 (get_or sides i d).0 → f (leaf (names + q.variable)) ≡ f (tree_of q.term)
    same_here f s = s (leaf (names + q.variable)) (tree_of q.term) (variable_here d) (side_here d)

    pub general_here : (put : ℕ → Tree) → IsSolution names (map equation_value qs) put → SameAt ts (put_in put) (get_or variables q.variable d).0 (get_or sides i d).0
    general_here put s t u at_t at_u =
        let x : leaf (names + q.variable) ≡ t = (let v = variable_here d in cc) in
        let y : tree_of q.term ≡ u = (let v = side_here d in cc) in
        ap (put_in put) (sym x) ∙ solves_here put s ∙ ap (put_in put) y

pub own_value_at : (qs : List Equation) (i : ℕ) (q : Equation) → slice_get qs i ≡ Some q → slice_get (map equation_value qs) i ≡ Some (equation_value q)
own_value_at qs i q at = slice_get-map equation_value qs i q at
