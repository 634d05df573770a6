use Rattle.std.proofs.Common.{◌≡◌, ◌++◌, drop, map}
use Rattle.std.specs.Prelude.{codes}
use Rattle.std.specs.List.{flat_map}
use Rattle.anb_term.specs.View.{tree_of}
use Rattle.anb_report.specs.Noting.{register_text}
use Rattle.anb_report.proofs.lists.put_terms.Given as goal

abbrev pub invariant-loop-r : goal.invariant-loop-r
invariant-loop-r l =
    l.out.items ++ flat_map (λ r. codes ", " ++ register_text l.protocol (map tree_of l.terms) r) (drop l.r-index l.rest)
    ≡ l.initial.out.items ++ flat_map (λ r. codes ", " ++ register_text l.protocol (map tree_of l.terms) r) l.rest
