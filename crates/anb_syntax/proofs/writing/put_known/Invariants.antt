use Rattle.std.proofs.Common.{◌≡◌, ◌++◌, map, drop, cond}
use Rattle.anb_syntax.specs.Grammar.{trees_of}
use Rattle.anb_syntax.specs.Canon.{all_bytes, lay_terms, lay_others}
use Rattle.anb_syntax.specs.Views.{tree_of}
use Rattle.anb_syntax.proofs.writing.put_known.Given as goal

abbrev pub invariant-loop-term : goal.invariant-loop-term
invariant-loop-term l =
    let rest = trees_of (map tree_of (drop l.term-index l.terms.items)) in
    l.out.items ++ all_bytes (cond l.first (lay_terms rest) (lay_others rest)) ≡ l.initial.out.items ++ all_bytes (lay_terms (trees_of (map tree_of l.terms.items)))
