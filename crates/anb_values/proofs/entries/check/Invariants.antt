use Rattle.std.proofs.Common.{◌≡◌, ◌∷◌, [], take, drop}
use Rattle.anb_values.specs.Lines.{seed_label}
use Rattle.anb_values.specs.Fit.{labels_of, lines_faults}
use Rattle.anb_values.proofs.entries.check.Given as goal

abbrev pub invariant-loop-entry : goal.invariant-loop-entry
invariant-loop-entry l = record {
  labels : l.labels ≡ labels_of (take l.entry-index l.entries);
  faults : lines_faults (seed_label ∷ l.names) l.labels (drop l.entry-index l.entries) ≡ lines_faults (seed_label ∷ l.names) [] l.entries;
}
