use Rattle.std.proofs.Common.{◌≤◌, List, ℕ, length, ap, sym, ◌∙◌, subst, arith}
use Rattle.std.specs.Option.{option_map}
use Rattle.std.specs.List.{AllByRecursion}
use Rattle.std.proofs.lemmas.List.Elements.{All-from_recursion}
use Rattle.anb_base.specs.declared.TheConstants.{ARRIVAL, WIDE}
use Rattle.anb_term.specs.declared.term.Term.{Term}
use Rattle.anb_term.specs.Tree.{Tree, trees_of, IsFormed}
use Rattle.anb_term.specs.View.{tree_of}
use Rattle.anb_term.proofs.Lists.{one_size, formed_next}
use Rattle.anb_algebra.specs.ByteMeaning.{has_operator}
use Rattle.anb_protocol.specs.Widths.{widths_if}
use Rattle.anb_protocol.proofs.WidthLemmas.{length_found, low_found, items_of}
use Rattle.anb_partner.proofs.standing.+width.Goals as goal

pub width_of-op_width-requires-clause-count : goal.width_of-op_width-requires-clause-count
width_of-op_width-requires-clause-count t c =
    let formats = c.args.formats.now in
    let us = trees_of c.in-Node.operands in
    let found = sym (ap (option_map items_of) c.in-Some.is) ∙ c.in_ok-widths-in-Node.ensures ∙ ap (λ (ts : List Tree). widths_if ARRIVAL formats WIDE (trees_of ts)) c.as_slice.ensures in
    let P : Term → Type 0 = λ u. IsFormed (has_operator formats) (tree_of u) in
    let formed = subst P c.in-Node.is c.requires in
    ap length c.deref.ensures.value ∙ length_found ARRIVAL formats WIDE us c.in-Some.widths.items (sym found) ∙ formed.1

pub width_of-op_width-requires-clause-within : goal.width_of-op_width-requires-clause-within
width_of-op_width-requires-clause-within t c =
    let formats = c.args.formats.now in
    let us = trees_of c.in-Node.operands in
    let found = sym (ap (option_map items_of) c.in-Some.is) ∙ c.in_ok-widths-in-Node.ensures ∙ ap (λ (ts : List Tree). widths_if ARRIVAL formats WIDE (trees_of ts)) c.as_slice.ensures in
    let P : List ℕ → Type 0 = λ ws. AllByRecursion (λ w. w ≤ WIDE) ws in
    All-from_recursion (λ w. w ≤ WIDE) c.deref.result.now (subst P (sym c.deref.ensures.value) (low_found ARRIVAL formats WIDE us c.in-Some.widths.items (sym found)))

pub widths_of-width_of-requires : goal.widths_of-width_of-requires
widths_of-width_of-requires t c =
    let ts = c.args.terms.now in
    let one = one_size ts c.loop-t.t-index c.t-item.result (omega arith) c.t-item.is in
    (omega (arith, one, c.decreases), (formed_next (has_operator c.args.formats.now) ts c.loop-t.t-index c.t-item.result (omega arith) c.t-item.is c.loop-t.invariant.formed).0)
