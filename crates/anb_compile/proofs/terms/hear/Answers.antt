use Rattle.std.proofs.Common.{[], ◌∷◌, ◌++◌, map, ap, ◌∙◌}
use Rattle.anb_term.specs.View.{tree_of}
use Rattle.anb_term.proofs.Lists.{slice_get-at, map-append}
use Rattle.anb_compile.proofs.terms.hear.Goals as goal

pub returns-clause-term : goal.returns-clause-term
returns-clause-term c =
    let e = c.index-events-next.result in
    let old = c.args.terms.now.items in (
      e,
      slice_get-at c.args.events.now c.args.next.now e c.requires c.index-events-next.is,
      ap (map tree_of) c.in_ok-push.ensures.items ∙ map-append tree_of old (c.in_ok-term.term ∷ []) ∙ ap (λ t. map tree_of old ++ t ∷ []) (ap tree_of c.in_ok-term.ensures ∙ c.term.ensures),
    )
