use Rattle.std.proofs.Common.{[], ◌∷◌, inl, refl}
use Rattle.anb_base.specs.declared.place.Place.TheVariants.{Stdio}
use Rattle.anb_command.proofs.Causes.{early_cause, early_reaches, only_memory, wire_cause}
use Rattle.anb_command.proofs.Failing.{IsFailure-map}
use Rattle.anb_command.proofs.OverWire.{untouched}
use Rattle.anb_chart_commands.specs.Views.{told_of}
use Rattle.anb_chart_commands.proofs.Charted.{completes_chart, refuses_chart, writes_chart}
use Rattle.anb_command.proofs.Reported.{told_before, told_behind}
use Rattle.anb_chart_commands.proofs.chart.Goals as goal

pub returns-in-Ok-clause-does : goal.returns-in-Ok-clause-does
returns-in-Ok-clause-does g c =
    writes_chart c.narrations_are_unique.ensures c.refusals_are_unique.ensures c.none_is_both.ensures c.choices_are_unique.ensures c.no_choice_is_refused.ensures (g.F.Shelf.files c.args.shelf.now) c.args.narration.now
    (g.W.Wire.state c.args.wire.now).written (g.W.Wire.state c.write_told.new.wire).written (told_of c.in-Ok.told) c.write_told.result c.in-Ok.ensures.given c.write_told.ensures.writes

pub returns-in-Ok-clause-faults : goal.returns-in-Ok-clause-faults
returns-in-Ok-clause-faults g c =
    wire_cause (c.args.narration.now ∷ []) Stdio (g.F.Shelf.faults c.args.shelf.now) (g.F.Shelf.faults c.told_in_file.new.shelf) (g.W.Wire.state c.args.wire.now) (g.W.Wire.state c.write_told.new.wire) c.write_told.result c.write_told.ensures.wire.cause

pub returns-in-Ok-clause-completes : goal.returns-in-Ok-clause-completes
returns-in-Ok-clause-completes g c = λ none.
    completes_chart (g.F.Shelf.files c.args.shelf.now) c.args.narration.now (g.W.Wire.state c.args.wire.now).written (g.W.Wire.state c.write_told.new.wire).written c.write_told.result (returns-in-Ok-clause-does g c)
    (only_memory (c.args.narration.now ∷ []) Stdio (g.F.Shelf.faults c.args.shelf.now) (g.F.Shelf.faults c.told_in_file.new.shelf) (g.W.Wire.state c.args.wire.now) (g.W.Wire.state c.write_told.new.wire) none c.write_told.result (returns-in-Ok-clause-faults g c))

pub returns-in-Ok-clause-reached : goal.returns-in-Ok-clause-reached
returns-in-Ok-clause-reached g c = c.write_told.ensures.wire.reached

pub returns-in-Ok-clause-touches : goal.returns-in-Ok-clause-touches
returns-in-Ok-clause-touches g c = c.write_told.ensures.wire.touches

pub returns-in-Err-clause-does : goal.returns-in-Err-clause-does
returns-in-Err-clause-does g c =
    refuses_chart c.narrations_are_unique.ensures c.refusals_are_unique.ensures c.none_is_both.ensures c.choices_are_unique.ensures c.no_choice_is_refused.ensures (g.F.Shelf.files c.args.shelf.now) c.args.narration.now
    (g.W.Wire.state c.args.wire.now).written c.in-Err.status _ c.in-Err.ensures.refused

pub returns-in-Err-clause-faults : goal.returns-in-Err-clause-faults
returns-in-Err-clause-faults g c =
    early_cause (c.args.narration.now ∷ []) Stdio (g.F.Shelf.faults c.args.shelf.now) (g.F.Shelf.faults c.told_in_file.new.shelf) (g.W.Wire.state c.args.wire.now) (g.W.Wire.state c.args.wire.now) c.in-Err.status _
    c.in-Err.ensures.early (IsFailure-map c.in-Err.status _ _ _ _ (λ file at. (inl at.0, at.1)) (λ is. is) c.in-Err.ensures.refused)

pub returns-in-Err-clause-completes : goal.returns-in-Err-clause-completes
returns-in-Err-clause-completes g c = λ none.
    completes_chart (g.F.Shelf.files c.args.shelf.now) c.args.narration.now (g.W.Wire.state c.args.wire.now).written (g.W.Wire.state c.args.wire.now).written c.in-Err.status (returns-in-Err-clause-does g c)
    (only_memory (c.args.narration.now ∷ []) Stdio (g.F.Shelf.faults c.args.shelf.now) (g.F.Shelf.faults c.told_in_file.new.shelf) (g.W.Wire.state c.args.wire.now) (g.W.Wire.state c.args.wire.now) none c.in-Err.status (returns-in-Err-clause-faults g c))

pub returns-in-Err-clause-reached : goal.returns-in-Err-clause-reached
returns-in-Err-clause-reached g c = early_reaches Stdio c.in-Err.status (g.W.Wire.state c.args.wire.now).reached c.in-Err.ensures.early

pub returns-in-Err-clause-touches : goal.returns-in-Err-clause-touches
returns-in-Err-clause-touches g c = untouched _ _ _

pub returns-in-Ok-clause-reported : goal.returns-in-Ok-clause-reported
returns-in-Ok-clause-reported g c = told_behind _ _ _ _ _ (c.in-Ok.ensures.told refl) c.write_told.ensures.wire.told

pub returns-in-Err-clause-reported : goal.returns-in-Err-clause-reported
returns-in-Err-clause-reported g c = told_before _ _ _ _ c.in-Err.ensures.told
