use Rattle.std.proofs.Common.{◌≡◌, Some, refl}
use Rattle.anb_term.specs.Value.{value}
use Rattle.anb_term.specs.FreeAlgebra.{terms_over}
use Rattle.anb_close.specs.Entries.{labels_of}
use Rattle.anb_close.specs.MadeView.{made_tree}
use Rattle.anb_close.specs.Recipes.{recipes}
use Rattle.anb_close.specs.Rows.{made_recipe}
use Rattle.anb_term.specs.View.{tree_of}
use Rattle.anb_algebra.specs.ByteMeaning.{has_operator}
use Rattle.anb_compile.proofs.Events.{formed_any}
use Rattle.anb_reason.proofs.Finding.{is_formed, some_of, none_of}
use Rattle.anb_reason.proofs.found.has_recipe.Goals as goal

pub compose-requires : goal.compose-requires
compose-requires c = formed_any (has_operator c.args.p.now.formats) (tree_of c.args.term.now) (is_formed c.args.p.now (tree_of c.args.term.now) c.requires.term)

pub returns-in-Ok-Some : goal.returns-in-Ok-Some
returns-in-Ok-Some c =
    let e = some_of c.in-Ok-Some.field-0 c.in-Ok-Some.field-0-0 (λ m. value (terms_over (has_operator c.args.p.now.formats)) (labels_of c.args.closure.now) (made_recipe (recipes c.args.closure.now) (made_tree m)) ≡ Some (tree_of c.args.term.now)) (c.in-Ok-Some.ensures.given (has_operator c.args.p.now.formats) c.requires.labels (is_formed c.args.p.now (tree_of c.args.term.now) c.requires.term)) c.in-Ok-Some.field-0-is in
    ((λ h. (made_recipe (recipes c.args.closure.now) (made_tree c.in-Ok-Some.field-0-0), e)), (λ h. refl))

pub returns-in-Ok-None : goal.returns-in-Ok-None
returns-in-Ok-None c =
    let e = none_of c.in-Ok-None.field-0 _ (c.in-Ok-None.ensures.refused (has_operator c.args.p.now.formats)) c.in-Ok-None.field-0-is in
    ((λ h. cc), (λ h. absurd (e h)))
