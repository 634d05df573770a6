use Rattle.std.proofs.Common.{◌≡◌, ◌++◌, option_map, drop}
use Rattle.anb_term.specs.Value.{values, HasEach}
use Rattle.anb_term.specs.RecipeView.{recipes_of}
use Rattle.anb_term.proofs.recipe.+eval.Given as goal

abbrev pub invariant-eval_all-loop-r : goal.invariant-eval_all-loop-r
invariant-eval_all-loop-r g l =
    let m = g.A.Algebra.meaning l.a in
    let rest = recipes_of (drop l.r-index l.recipes.items) in
    record {
      has : HasEach m.has rest;
      so_far : values m l.labels (recipes_of l.recipes.items) ≡ option_map (λ vs. l.table.items ++ vs) (values m l.labels rest);
    }
