-- One more term.
use Rattle.std.proofs.Common.{◌≡◌, ◌+◌, ◌++◌, map, drop, sym, ap, ◌∙◌, arith, append_assoc}
use Rattle.std.proofs.lemmas.List.Elements.{filter-append}
use Rattle.std.specs.Prelude.{nat_le, filter}
use Rattle.anb_term.proofs.Lists.{one_size, split_at}
use Rattle.anb_term.specs.Tree.{trees_of}
use Rattle.anb_term.specs.View.{tree_of}
use Rattle.anb_protocol.specs.Texts.{atoms_in, atoms_in_all}
use Rattle.anb_stranger.specs.Reaching.{variables}
use Rattle.anb_stranger.proofs.beginning.+variables.Goals as goal

pub put_all_variables-put_variables-requires : goal.put_all_variables-put_variables-requires
put_all_variables-put_variables-requires t c =
    let one = one_size c.args.terms.now c.loop-t.t-index c.t-item.result (omega arith) c.t-item.is in omega (arith, one, c.decreases)

pub put_all_variables-loop-t-preserved : goal.put_all_variables-loop-t-preserved
put_all_variables-loop-t-preserved t c =
    let terms = c.args.terms.now in
    let i = c.loop-t.t-index in
    let x = c.t-item.result in
    let one = filter (nat_le c.args.names) (atoms_in (tree_of x)) in
    let rest = map tree_of (drop (i + 1) terms) in
    let split : variables c.args.names (map tree_of (drop i terms)) ≡ one ++ variables c.args.names rest =
    ap (variables c.args.names) (split_at terms i x (omega arith) c.t-item.is) ∙ filter-append (nat_le c.args.names) (atoms_in (tree_of x)) (atoms_in_all (trees_of rest)) in
    ap (λ l. l ++ variables c.args.names rest) c.in_ok-put_variables.ensures ∙ append_assoc c.loop-t.out.items one (variables c.args.names rest)
    ∙ ap (λ l. c.loop-t.out.items ++ l) (sym split) ∙ c.loop-t.invariant
