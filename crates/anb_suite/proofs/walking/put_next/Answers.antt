-- One more register.
use Rattle.std.proofs.Common.{◌≡◌, ◌+◌, [], ◌∷◌, ◌++◌, map, refl, sym, ap, ◌∙◌, arith, append_assoc}
use Rattle.std.specs.List.{range_with_len}
use Rattle.std.proofs.lemmas.List.FromFn.{map-range_with_len_more}
use Rattle.anb_term.specs.Tree.{leaf}
use Rattle.anb_term.specs.View.{tree_of}
use Rattle.anb_term.specs.declared.term.Term.TheVariants.{Atom}
use Rattle.anb_term.proofs.Lists.{map-append}
use Rattle.anb_unify.proofs.Steps.{map_map}
use Rattle.anb_suite.proofs.walking.put_next.Goals as goal

pub loop-part-preserved : goal.loop-part-preserved
loop-part-preserved c =
    let n = c.loop-part.part in
    let first = c.args.first in
    let pre = map tree_of c.args.terms.now.items in
    let row = map (λ r. leaf (c.args.names + r)) (range_with_len first n) in
    let is : c.in_ok-atom.atom ≡ c.args.names + (first + n) = c.in_ok-atom.ensures ∙ ap (λ x. c.args.names + x) c.in_ok-register.ensures in
    ap (map tree_of) c.in_ok-push.ensures.items ∙ map-append tree_of c.loop-part.terms.items (Atom c.in_ok-atom.atom ∷ [])
    ∙ ap (λ l. l ++ leaf c.in_ok-atom.atom ∷ []) c.loop-part.invariant ∙ append_assoc pre row (leaf c.in_ok-atom.atom ∷ [])
    ∙ ap (λ x. pre ++ (row ++ leaf x ∷ [])) is
    ∙ ap (λ l. pre ++ l) (sym (map-range_with_len_more (λ r. leaf (c.args.names + r)) first n (first + n) refl))

pub returns : goal.returns
returns c =
    let first = c.args.first in
    let pre = map tree_of c.args.terms.now.items in
    let all : c.loop-part.part ≡ c.args.count = omega arith in
    c.loop-part.invariant ∙ ap (λ k. pre ++ map (λ r. leaf (c.args.names + r)) (range_with_len first k)) all
    ∙ ap (λ l. pre ++ l) (sym (map_map leaf (λ i. c.args.names + i) (range_with_len first c.args.count)))
