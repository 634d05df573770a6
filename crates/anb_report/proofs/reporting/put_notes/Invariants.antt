use Rattle.std.proofs.Common.{◌≡◌, ◌++◌, drop}
use Rattle.std.specs.Prelude.{codes}
use Rattle.std.specs.List.{flat_map}
use Rattle.anb_report.proofs.reporting.put_notes.Given as goal

abbrev pub invariant-loop-note : goal.invariant-loop-note
invariant-loop-note l = l.out.items ++ flat_map (λ x. codes "; " ++ x) (drop l.note-index l.rest) ≡ l.initial.out.items ++ flat_map (λ x. codes "; " ++ x) l.rest
