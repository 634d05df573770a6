use Rattle.std.proofs.Common.{◌≡◌, Option, Some, subst}
use Rattle.std.specs.Prelude.{IfSome, MatchOption}
use Rattle.anb_term.specs.Tree.{leaf}
use Rattle.anb_term.specs.Value.{value}
use Rattle.anb_term.specs.FreeAlgebra.{terms_over}
use Rattle.anb_algebra.specs.ByteMeaning.{has_operator}
use Rattle.anb_close.specs.declared.made.Made.{Made}
use Rattle.anb_close.specs.Entries.{labels_of}
use Rattle.anb_close.specs.MadeView.{made_tree}
use Rattle.anb_close.specs.Recipes.{recipes}
use Rattle.anb_close.specs.Rows.{made_recipe}
use Rattle.anb_draws.specs.Telling.{IsHad}
use Rattle.anb_draws.proofs.closing.is_open.Goals as goal

pub returns-in-Ok-Some-clause-had : goal.returns-in-Ok-Some-clause-had
returns-in-Ok-Some-clause-had c said =
    let has = has_operator c.args.p.now.formats in
    let F = labels_of c.args.closure.now in
    let is_of : Made → Type 0 = λ m. value (terms_over has) F (made_recipe (recipes c.args.closure.now) (made_tree m)) ≡ Some (leaf c.args.name) in
    let at : IfSome (Some c.in-Ok-Some.field-0-0) is_of = subst (λ (o : Option Made). IfSome o is_of) c.in-Ok-Some.field-0-is (c.in-Ok-Some.ensures.given has c.requires tt) in
    (made_recipe (recipes c.args.closure.now) (made_tree c.in-Ok-Some.field-0-0), at)

pub returns-in-Ok-None-clause-hidden : goal.returns-in-Ok-None-clause-hidden
returns-in-Ok-None-clause-hidden c shut none had =
    let has = has_operator c.args.p.now.formats in
    let N : Option Made → Type 0 = λ o. MatchOption o (IsHad c.args.p.now (labels_of c.args.closure.now) c.args.name → ⊥) (λ m. Unit {0}) in
    (subst N c.in-Ok-None.field-0-is (c.in-Ok-None.ensures.refused has)) had
