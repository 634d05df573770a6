use Rattle.std.proofs.Common.{◌≡◌, ◌++◌, drop}
use Rattle.std.specs.Prelude.{codes}
use Rattle.std.specs.List.{flat_map}
use Rattle.anb_report.proofs.reporting.put_new.Given as goal

abbrev pub invariant-loop-name : goal.invariant-loop-name
invariant-loop-name l = l.out.items ++ flat_map (λ x. codes ", " ++ x) (drop l.name-index l.rest) ≡ l.initial.out.items ++ flat_map (λ x. codes ", " ++ x) l.rest
