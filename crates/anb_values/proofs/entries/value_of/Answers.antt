use Rattle.std.proofs.Common.{◌≡◌, Some, None, sym, ap, ◌∙◌, refl, length, rules, tests}
use Rattle.std.specs.Option.{option_map, option_copied}
use Rattle.std.specs.List.{slice_get}
use Rattle.std.proofs.lemmas.Option.{slice_get_read, slice_get_past}
use Rattle.anb_index.specs.Places.{place_of}
use Rattle.anb_values.specs.declared.lines.Entry.{Entry}
use Rattle.anb_values.specs.Fit.{labels_of}
use Rattle.anb_values.proofs.FitLemmas.{no_value, value_at}
use Rattle.anb_values.proofs.entries.value_of.Goals as goal

pub returns-in_err-place : goal.returns-in_err-place
returns-in_err-place c =
    let none : place_of (labels_of c.args.entries.now) c.args.label.now ≡ None = sym (ap (λ ls. place_of ls c.args.label.now) c.requires) ∙ sym c.place_of.ensures ∙ c.in_err-place.was in
    ap option_copied c.from_residual.ensures ∙ sym (no_value c.args.entries.now c.args.label.now none)

pub returns-in_err-entry : goal.returns-in_err-entry
returns-in_err-entry c =
    let some : place_of (labels_of c.args.entries.now) c.args.label.now ≡ Some c.in_ok-place.place = sym (ap (λ ls. place_of ls c.args.label.now) c.requires) ∙ sym c.place_of.ensures ∙ c.in_ok-place.was in
    let past : slice_get c.args.entries.now c.in_ok-place.place ≡ None = slice_get_past c.args.entries.now c.in_ok-place.place (search (rules, tests)) in
    ap option_copied c.from_residual-in_err-entry.ensures ∙ ap (option_map (λ (e : Entry). e.value)) (sym past) ∙ sym (value_at c.args.entries.now c.args.label.now c.in_ok-place.place some)

pub returns : goal.returns
returns c =
    let some : place_of (labels_of c.args.entries.now) c.args.label.now ≡ Some c.in_ok-place.place = sym (ap (λ ls. place_of ls c.args.label.now) c.requires) ∙ sym c.place_of.ensures ∙ c.in_ok-place.was in
    let there : slice_get c.args.entries.now c.in_ok-place.place ≡ Some c.in_ok-entry.entry.now = slice_get_read c.args.entries.now (length c.args.entries.now) c.in_ok-place.place c.in_ok-entry.entry.now refl (search (rules, tests)) (search (rules, tests)) in
    ap (option_map (λ (e : Entry). e.value)) (sym there) ∙ sym (value_at c.args.entries.now c.args.label.now c.in_ok-place.place some)
