use Rattle.std.proofs.Common.{◌+◌, drop, map, sym, ap, ◌∙◌, arith}
use Rattle.anb_lemmas.proofs.Lists.{drop_at_got}
use Rattle.anb_term.specs.Tree.{trees_of}
use Rattle.anb_term.specs.View.{tree_of}
use Rattle.anb_term.proofs.Lists.{slice_get-at, one_size}
use Rattle.anb_protocol.specs.Seen.{marked}
use Rattle.anb_protocol.specs.Texts.{atoms_in, atoms_in_all}
use Rattle.anb_report.proofs.Marking.{marked_both}
use Rattle.anb_report.proofs.names.+marking.Goals as goal

pub mark_terms-mark_term-requires : goal.mark_terms-mark_term-requires
mark_terms-mark_term-requires t c =
    let one = one_size c.args.terms.now c.loop-term.term-index c.term-item.result (omega arith) c.term-item.is in omega (arith, one, c.decreases)

pub mark_terms-loop-term-preserved : goal.mark_terms-loop-term-preserved
mark_terms-loop-term-preserved t c =
    let terms = c.args.terms.now in
    let i = c.loop-term.term-index in
    let x = c.term-item.result in
    let here = slice_get-at terms i x (omega arith) c.term-item.is in
    let marks = c.loop-term.marks.items in
    let later = atoms_in_all (trees_of (map tree_of (drop (i + 1) terms))) in
    ap (λ m. marked m later) c.mark_term.ensures ∙ sym (marked_both marks (atoms_in (tree_of x)) later)
    ∙ ap (λ l. marked marks (atoms_in_all (trees_of (map tree_of l)))) (sym (drop_at_got terms i x here)) ∙ c.loop-term.invariant
