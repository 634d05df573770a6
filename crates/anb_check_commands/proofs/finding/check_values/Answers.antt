use Rattle.std.proofs.Common.{[], ◌∷◌, refl}
use Rattle.anb_base.specs.declared.place.Place.TheVariants.{Stdio}
use Rattle.anb_command.proofs.Causes.{early_cause, only_memory, wire_cause}
use Rattle.anb_command.proofs.Failing.{IsFailure-map}
use Rattle.anb_command.proofs.OverWire.{untouched}
use Rattle.anb_command.proofs.Reported.{told_before, told_behind}
use Rattle.anb_check_commands.specs.CheckValues.{values_text}
use Rattle.anb_check_commands.proofs.Values.{completes_values, does_found, does_refused, early_values}
use Rattle.anb_check_commands.proofs.finding.check_values.Goals as goal

-- ---- the verdict is written

pub returns-in-Ok-verdict_on_values-clause-does : goal.returns-in-Ok-verdict_on_values-clause-does
returns-in-Ok-verdict_on_values-clause-does g c =
    let asked = values_text c.in-Ok.asked.names.items c.in-Ok.asked.text in
    does_found c.narrations_are_unique.ensures c.refusals_are_unique.ensures c.none_is_both.ensures c.one_fit.ensures c.args.narration.now c.args.name.now c.args.values.now (g.F.Shelf.files c.args.shelf.now)
    (g.W.Wire.state c.args.wire.now).written (g.W.Wire.state c.tell_values.new.wire).written asked c.in-Ok-verdict_on_values.verdict.status c.in-Ok-verdict_on_values.verdict.said c.tell_values.result
    c.in-Ok.ensures.given c.in-Ok-verdict_on_values.ensures.is c.in-Ok-verdict_on_values.ensures.last c.tell_values.ensures.tells

pub returns-in-Ok-verdict_on_values-clause-faults : goal.returns-in-Ok-verdict_on_values-clause-faults
returns-in-Ok-verdict_on_values-clause-faults g c =
    wire_cause (c.args.narration.now ∷ c.args.values.now ∷ []) Stdio (g.F.Shelf.faults c.args.shelf.now) (g.F.Shelf.faults c.asked_in_files.new.shelf) (g.W.Wire.state c.args.wire.now) (g.W.Wire.state c.tell_values.new.wire) c.tell_values.result c.tell_values.ensures.cause

pub returns-in-Ok-verdict_on_values-clause-completes : goal.returns-in-Ok-verdict_on_values-clause-completes
returns-in-Ok-verdict_on_values-clause-completes g c = λ none.
    completes_values c.args.narration.now c.args.name.now c.args.values.now (g.F.Shelf.files c.args.shelf.now)
    (g.W.Wire.state c.args.wire.now).written (g.W.Wire.state c.tell_values.new.wire).written c.tell_values.result (returns-in-Ok-verdict_on_values-clause-does g c)
    (only_memory (c.args.narration.now ∷ c.args.values.now ∷ []) Stdio (g.F.Shelf.faults c.args.shelf.now) (g.F.Shelf.faults c.asked_in_files.new.shelf) (g.W.Wire.state c.args.wire.now) (g.W.Wire.state c.tell_values.new.wire) none c.tell_values.result
    (returns-in-Ok-verdict_on_values-clause-faults g c))

pub returns-in-Ok-verdict_on_values-clause-reported : goal.returns-in-Ok-verdict_on_values-clause-reported
returns-in-Ok-verdict_on_values-clause-reported g c = told_behind _ _ _ _ _ (c.in-Ok.ensures.told refl) c.tell_values.ensures.told

-- ---- the files are refused

pub returns-in-Err-clause-does : goal.returns-in-Err-clause-does
returns-in-Err-clause-does g c =
    does_refused c.narrations_are_unique.ensures c.refusals_are_unique.ensures c.none_is_both.ensures c.one_fit.ensures c.args.narration.now c.args.name.now c.args.values.now (g.F.Shelf.files c.args.shelf.now)
    (g.W.Wire.state c.args.wire.now).written c.in-Err.status (IsFailure-map c.in-Err.status _ _ _ _ (λ file at. at.2) (λ is. is) c.in-Err.ensures.refused)

pub returns-in-Err-clause-faults : goal.returns-in-Err-clause-faults
returns-in-Err-clause-faults g c =
    early_cause (c.args.narration.now ∷ c.args.values.now ∷ []) Stdio (g.F.Shelf.faults c.args.shelf.now) (g.F.Shelf.faults c.asked_in_files.new.shelf) (g.W.Wire.state c.args.wire.now) (g.W.Wire.state c.args.wire.now) c.in-Err.status _
    c.in-Err.ensures.early (IsFailure-map c.in-Err.status _ _ _ _ (λ file at. (at.0, at.1)) (λ is. is) c.in-Err.ensures.refused)

pub returns-in-Err-clause-completes : goal.returns-in-Err-clause-completes
returns-in-Err-clause-completes g c = λ none.
    completes_values c.args.narration.now c.args.name.now c.args.values.now (g.F.Shelf.files c.args.shelf.now)
    (g.W.Wire.state c.args.wire.now).written (g.W.Wire.state c.args.wire.now).written c.in-Err.status (returns-in-Err-clause-does g c)
    (only_memory (c.args.narration.now ∷ c.args.values.now ∷ []) Stdio (g.F.Shelf.faults c.args.shelf.now) (g.F.Shelf.faults c.asked_in_files.new.shelf) (g.W.Wire.state c.args.wire.now) (g.W.Wire.state c.args.wire.now) none c.in-Err.status
    (returns-in-Err-clause-faults g c))

pub returns-in-Err-clause-reached : goal.returns-in-Err-clause-reached
returns-in-Err-clause-reached g c = early_values c.in-Err.status (g.W.Wire.state c.args.wire.now).reached c.in-Err.ensures.early c.in-Err.ensures.before

pub returns-in-Err-clause-touches : goal.returns-in-Err-clause-touches
returns-in-Err-clause-touches g c = untouched _ _ _

pub returns-in-Err-clause-reported : goal.returns-in-Err-clause-reported
returns-in-Err-clause-reported g c = told_before _ _ _ _ c.in-Err.ensures.told
