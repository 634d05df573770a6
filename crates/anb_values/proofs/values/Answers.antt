use Rattle.std.proofs.Common.{◌≡◌, [], ◌∷◌, ◌++◌, map, Some, Ok, ap, ◌∙◌, rules, arith}
use Rattle.anb_values.specs.Lines.{lines_of, seed_label}
use Rattle.anb_values.specs.Fit.{lines_faults, missing, value_of}
use Rattle.anb_values.proofs.LineLemmas.{said_seed}
use Rattle.anb_values.proofs.FitLemmas.{refused_by_entry, refused_by_line, refused_by_name}
use Rattle.anb_values.proofs.Outcomes.{handed_due, one_fit}
use Rattle.anb_values.proofs.Short.{values_short}
use Rattle.anb_values.proofs.Sizes.{entries_fit, values_fit}
use Rattle.anb_values.proofs.values.Goals as goal

pub seed_of-seed-requires-clause-whole : goal.seed_of-seed-requires-clause-whole
seed_of-seed-requires-clause-whole c = rw c.deref-3.ensures.value (said_seed (lines_of c.args.text.now) c.in_ok-entries.entries.items c.in_ok-entries.ensures.said)

pub returns-in_err-labels-clause-refused : goal.returns-in_err-labels-clause-refused
returns-in_err-labels-clause-refused c =
    let refused = refused_by_entry c.args.text.now c.args.names.now c.in_ok-entries.entries.items c.in_err-labels.field-0.0 c.in_ok-entries.ensures.said (rw c.deref.ensures.value at c.in_err-labels.ensures.refused) in
    search (rules, refused)

pub returns-in_err-entries-clause-exact : goal.returns-in_err-entries-clause-exact
returns-in_err-entries-clause-exact c =
    handed_due c.args.text.now c.args.names.now c.in_err-entries.field-0.0 c.from_residual.result c.from_residual.ensures.1
    (refused_by_line c.args.text.now c.args.names.now c.in_err-entries.field-0.0 c.in_err-entries.ensures.refused)

pub returns-in_err-labels-clause-exact : goal.returns-in_err-labels-clause-exact
returns-in_err-labels-clause-exact c =
    handed_due c.args.text.now c.args.names.now c.in_err-labels.field-0.0 c.from_residual-in_err-labels.result c.from_residual-in_err-labels.ensures.1
    (refused_by_entry c.args.text.now c.args.names.now c.in_ok-entries.entries.items c.in_err-labels.field-0.0 c.in_ok-entries.ensures.said (rw c.deref.ensures.value at c.in_err-labels.ensures.refused))

pub returns-in_err-values-clause-exact : goal.returns-in_err-values-clause-exact
returns-in_err-values-clause-exact c =
    handed_due c.args.text.now c.args.names.now c.in_err-values.field-0.0 c.from_residual-in_err-values.result c.from_residual-in_err-values.ensures.1
    (refused_by_name c.args.text.now c.args.names.now c.in_ok-entries.entries.items c.in_err-values.field-0.0 c.in_ok-entries.ensures.said
    (rw c.deref.ensures.value at c.in_ok-labels.ensures.fine) (rw c.deref-2.ensures.value at c.in_err-values.ensures.refused))

pub returns-clause-exact : goal.returns-clause-exact
returns-clause-exact c due fit =
    let names = c.args.names.now in
    let entries = c.in_ok-entries.entries.items in
    let fine : lines_faults (seed_label ∷ names) [] entries ≡ [] = rw c.deref.ensures.value at c.in_ok-labels.ensures.fine in
    let none : missing names entries ≡ [] = rw c.deref-2.ensures.value at c.in_ok-values.ensures.none_missing in
    let values : map Some c.new.result ≡ map (value_of entries) names = ap (map Some) c.new.ensures ∙ (rw c.deref-2.ensures.value at c.in_ok-values.ensures.values) in
    let seed : c.seed_of-seed.result ≡ value_of entries seed_label = c.seed_of-seed.ensures ∙ ap (λ l. value_of l seed_label) c.deref-3.ensures.value in
    one_fit c.args.text.now names (Ok (record { values = c.new.result; seed = c.seed_of-seed.result })) due
    (entries, c.in_ok-entries.ensures.said, ap (λ l. l ++ missing names entries) fine ∙ none, values, seed) fit

pub returns-clause-total : goal.returns-clause-total
returns-clause-total c =
    let values = values_fit c.args.names.now c.in_ok-entries.entries.items c.in_ok-values.values.items c.requires.differ (rw c.deref-2.ensures.value at c.in_ok-values.ensures.values) in
    let entries = entries_fit c.args.text.now c.in_ok-entries.entries.items c.in_ok-entries.ensures.said in
    rw c.new.ensures (omega (arith, values, entries))

pub returns-clause-short : goal.returns-clause-short
returns-clause-short c =
    let names = c.args.names.now in
    let entries = c.in_ok-entries.entries.items in
    let fine : lines_faults (seed_label ∷ names) [] entries ≡ [] = rw c.deref.ensures.value at c.in_ok-labels.ensures.fine in
    let values : map Some c.new.result ≡ map (value_of entries) names = ap (map Some) c.new.ensures ∙ (rw c.deref-2.ensures.value at c.in_ok-values.ensures.values) in
    values_short (seed_label ∷ names) names c.new.result entries fine values
