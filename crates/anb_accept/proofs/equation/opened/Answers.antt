-- The keys and the parts.
use Rattle.std.proofs.Common.{◌++◌, map, ap, ◌∙◌}
use Rattle.anb_term.specs.Tree.{node, trees_of}
use Rattle.anb_accept.specs.Equations.{over_entries, entries_from}
use Rattle.anb_accept.proofs.equation.opened.Goals as goal

pub returns : goal.returns
returns c =
    let names = c.args.names in
    let o = c.args.opening.now in
    ap (λ l. node o.op (trees_of l)) (c.new.ensures ∙ c.in_ok-put_parts.ensures
    ∙ ap (λ l. l ++ entries_from names o.first c.count_parts.result) (c.in_ok-operands.ensures ∙ ap (map (over_entries names)) c.as_slice.ensures)
    ∙ ap (λ n. map (over_entries names) o.keys ++ entries_from names o.first n) c.count_parts.ensures)
