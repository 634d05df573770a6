-- One more variable.
use Rattle.std.proofs.Common.{◌≡◌, ◌+◌, [], ◌∷◌, ◌++◌, map, sym, ap, ◌∙◌, arith, append_assoc}
use Rattle.std.proofs.lemmas.List.FromFn.{map-range_with_len_more}
use Rattle.anb_term.specs.Tree.{leaf}
use Rattle.anb_term.specs.View.{tree_of}
use Rattle.anb_term.specs.declared.term.Term.TheVariants.{Atom}
use Rattle.anb_term.proofs.Lists.{map-append}
use Rattle.anb_accept.specs.Equations.{entries_from}
use Rattle.anb_accept.proofs.equation.put_parts.Goals as goal

pub loop-part-preserved : goal.loop-part-preserved
loop-part-preserved c =
    let n = c.loop-part.part in
    let pre = map tree_of c.args.operands.now.items in
    let is : c.in_ok-atom.atom ≡ c.args.names + (c.args.first + n) = c.in_ok-atom.ensures ∙ ap (λ x. c.args.names + x) c.in_ok-entry.ensures ∙ ap (λ x. c.args.names + (c.args.first + x)) c.from.ensures in
    let zero : 0 + n ≡ n = omega arith in
    ap (map tree_of) c.in_ok-push.ensures.items ∙ map-append tree_of c.loop-part.operands.items (Atom c.in_ok-atom.atom ∷ [])
    ∙ ap (λ l. l ++ leaf c.in_ok-atom.atom ∷ []) c.loop-part.invariant ∙ append_assoc pre (entries_from c.args.names c.args.first n) (leaf c.in_ok-atom.atom ∷ [])
    ∙ ap (λ x. pre ++ (entries_from c.args.names c.args.first n ++ leaf x ∷ [])) is
    ∙ ap (λ l. pre ++ l) (sym (map-range_with_len_more (λ j. leaf (c.args.names + (c.args.first + j))) 0 n n zero))
