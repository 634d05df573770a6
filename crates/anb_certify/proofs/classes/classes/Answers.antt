use Rattle.std.proofs.Common.{map, sym, subst, arith, ◌∙◌}
use Rattle.anb_certify.specs.Classes.{Saturated}
use Rattle.anb_certify.specs.Works.{did_of}
use Rattle.anb_certify.proofs.Ruling.{firsts_saturated}
use Rattle.anb_certify.proofs.classes.classes.Goals as goal

pub returns-then-all_set-clause-exact : goal.returns-then-all_set-clause-exact
returns-then-all_set-clause-exact c =
    let did = map did_of c.args.done.now in
    let names = c.in_ok-names.names.items in
    let same = c.in_ok-names.ensures.all (λ i b e. c.all_set.ensures c.if-all_set.true i b (omega arith) e) in
    let named = c.in_ok-names.ensures.named did c.requires.settled in
    c.classes_are_tied.ensures.exact did names (subst (Saturated did) (sym same) (firsts_saturated did c.requires.grouped.0 c.args.firsts.now c.requires.grouped.1)) named

pub saturated-requires-clause-low : goal.saturated-requires-clause-low
saturated-requires-clause-low c = c.in_ok-names.ensures.low c.requires.grouped.1.least

pub saturated-requires-clause-flat : goal.saturated-requires-clause-flat
saturated-requires-clause-flat c =
    let g = c.requires.grouped.1 in
    c.in_ok-names.ensures.flat (λ i x e. g.alike x i (g.there i x e) ∙ e)
