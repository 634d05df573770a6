use Rattle.std.proofs.Common.{sym, ap, ◌∙◌, arith, length, ◌≤◌}
use Rattle.std.proofs.lemmas.Option.{slice_get_past}
use Rattle.anb_term.specs.Value.{value}
use Rattle.anb_term.specs.RecipeView.{recipe_of}
use Rattle.anb_term.proofs.RecipeViews.{recipe_of-Label}
use Rattle.anb_term.proofs.recipe.+eval.Goals as goal

pub eval-returns-else-n-labels : goal.eval-returns-else-n-labels
eval-returns-else-n-labels g t c =
    let n = c.in-Label.n in
    let past : length c.args.labels.now ≤ n = omega arith in
    sym (ap (λ r. value (g.A.Algebra.meaning c.args.a.now) c.args.labels.now (recipe_of r)) c.in-Label.is ∙ rw (recipe_of-Label) (slice_get_past c.args.labels.now n past))
