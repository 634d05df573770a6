use Rattle.std.proofs.Common.{ap, ◌∙◌}
use Rattle.anb_term.specs.View.{tree_of}
use Rattle.anb_close.specs.Entries.{labels_of}
use Rattle.anb_reason.proofs.Finding.{found_one}
use Rattle.anb_reason.proofs.found.find.Goals as goal

pub returns-in_ok-insert-in-Ok : goal.returns-in_ok-insert-in-Ok
returns-in_ok-insert-in-Ok c protocol =
    found_one c.args.p.now (labels_of c.args.closure.now) (tree_of c.args.term.now) c.in-Ok.copy c.into_bytes.result c.args.found.now (record { terms = c.insert.new.self }) protocol
    (ap (λ v. v.items) c.into_bytes.ensures.value ∙ c.into_string.ensures ∙ c.in_ok-text.ensures) (ap tree_of c.in-Ok.ensures) c.in_ok-insert-in-Ok.ensures.entries
    c.requires.term (c.in_ok-has_recipe.ensures.0 c.if-not-branch.false)
