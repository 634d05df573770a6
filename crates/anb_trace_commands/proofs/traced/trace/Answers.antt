use Rattle.std.proofs.Common.{[], ◌∷◌, refl}
use Rattle.anb_base.specs.declared.place.Place.TheVariants.{Stdio}
use Rattle.anb_command.proofs.Causes.{early_cause, early_reaches, only_memory, wire_cause}
use Rattle.anb_command.proofs.Failing.{IsFailure-map}
use Rattle.anb_command.proofs.OverWire.{untouched}
use Rattle.anb_role_commands.proofs.Replaying.{comparison_one}
use Rattle.anb_trace_commands.proofs.Coming.{completes_trace, does_refused, does_traced}
use Rattle.anb_command.proofs.Reported.{told_before, told_behind}
use Rattle.anb_trace_commands.proofs.traced.trace.Goals as goal

pub returns-in-Ok-clause-does : goal.returns-in-Ok-clause-does
returns-in-Ok-clause-does g c =
    let words = c.args.words in
    let t = c.in-Ok.tracing in
    let ok = c.in-Ok.ensures in
    does_traced words.narration.now words.name.now words.values.now words.transcript.now c.args.host_seed c.args.session
    (comparison_one words.narration.now words.name.now words.values.now words.transcript.now c.args.host_seed c.narrations_are_unique.ensures c.refusals_are_unique.ensures c.none_is_both.ensures c.one_fit.ensures c.one_reading.ensures)
    c.one_replay.ensures t.protocol t.role t.prepared.code t.prepared.initial t.prepared.seed t.transcript ok.fits ok.verified ok.takes
    (g.F.Shelf.files c.args.shelf.now) (g.W.Wire.state c.args.wire.now) (g.W.Wire.state c.trace_over.new.wire) c.trace_over.result c.trace_over.ensures.late ok.ready c.trace_over.ensures.comes

pub returns-in-Ok-clause-faults : goal.returns-in-Ok-clause-faults
returns-in-Ok-clause-faults g c =
    wire_cause (c.args.words.narration.now ∷ c.args.words.values.now ∷ c.args.words.transcript.now ∷ []) Stdio (g.F.Shelf.faults c.args.shelf.now) (g.F.Shelf.faults c.prepare.new.shelf) (g.W.Wire.state c.args.wire.now) (g.W.Wire.state c.trace_over.new.wire) c.trace_over.result c.trace_over.ensures.wire.cause

pub returns-in-Ok-clause-completes : goal.returns-in-Ok-clause-completes
returns-in-Ok-clause-completes g c = λ none.
    let words = c.args.words in
    completes_trace words.narration.now words.name.now words.values.now words.transcript.now c.args.host_seed c.args.session
    (comparison_one words.narration.now words.name.now words.values.now words.transcript.now c.args.host_seed c.narrations_are_unique.ensures c.refusals_are_unique.ensures c.none_is_both.ensures c.one_fit.ensures c.one_reading.ensures)
    (g.F.Shelf.files c.args.shelf.now) (g.W.Wire.state c.args.wire.now) (g.W.Wire.state c.trace_over.new.wire) c.trace_over.result (returns-in-Ok-clause-does g c)
    (only_memory (words.narration.now ∷ words.values.now ∷ words.transcript.now ∷ []) Stdio (g.F.Shelf.faults c.args.shelf.now) (g.F.Shelf.faults c.prepare.new.shelf) (g.W.Wire.state c.args.wire.now) (g.W.Wire.state c.trace_over.new.wire) none c.trace_over.result (returns-in-Ok-clause-faults g c))

pub returns-in-Ok-clause-reached : goal.returns-in-Ok-clause-reached
returns-in-Ok-clause-reached g c = c.trace_over.ensures.wire.reached

pub returns-in-Ok-clause-touches : goal.returns-in-Ok-clause-touches
returns-in-Ok-clause-touches g c = c.trace_over.ensures.wire.touches

pub returns-in-Err-clause-does : goal.returns-in-Err-clause-does
returns-in-Err-clause-does g c =
    let words = c.args.words in
    does_refused words.narration.now words.name.now words.values.now words.transcript.now c.args.host_seed c.args.session
    (comparison_one words.narration.now words.name.now words.values.now words.transcript.now c.args.host_seed c.narrations_are_unique.ensures c.refusals_are_unique.ensures c.none_is_both.ensures c.one_fit.ensures c.one_reading.ensures)
    (g.F.Shelf.files c.args.shelf.now) (g.W.Wire.state c.args.wire.now) c.in-Err.status (IsFailure-map c.in-Err.status _ _ _ _ (λ file at. at.2) (λ is. is) c.in-Err.ensures.refused)

pub returns-in-Err-clause-faults : goal.returns-in-Err-clause-faults
returns-in-Err-clause-faults g c =
    let words = c.args.words in
    early_cause (words.narration.now ∷ words.values.now ∷ words.transcript.now ∷ []) Stdio (g.F.Shelf.faults c.args.shelf.now) (g.F.Shelf.faults c.prepare.new.shelf) (g.W.Wire.state c.args.wire.now) (g.W.Wire.state c.args.wire.now)
    c.in-Err.status _ c.in-Err.ensures.early
    (IsFailure-map c.in-Err.status _ _ _ _ (λ file at. (at.0, at.1)) (λ is. is) c.in-Err.ensures.refused)

pub returns-in-Err-clause-completes : goal.returns-in-Err-clause-completes
returns-in-Err-clause-completes g c = λ none.
    let words = c.args.words in
    completes_trace words.narration.now words.name.now words.values.now words.transcript.now c.args.host_seed c.args.session
    (comparison_one words.narration.now words.name.now words.values.now words.transcript.now c.args.host_seed c.narrations_are_unique.ensures c.refusals_are_unique.ensures c.none_is_both.ensures c.one_fit.ensures c.one_reading.ensures)
    (g.F.Shelf.files c.args.shelf.now) (g.W.Wire.state c.args.wire.now) (g.W.Wire.state c.args.wire.now) c.in-Err.status (returns-in-Err-clause-does g c)
    (only_memory (words.narration.now ∷ words.values.now ∷ words.transcript.now ∷ []) Stdio (g.F.Shelf.faults c.args.shelf.now) (g.F.Shelf.faults c.prepare.new.shelf) (g.W.Wire.state c.args.wire.now) (g.W.Wire.state c.args.wire.now) none c.in-Err.status (returns-in-Err-clause-faults g c))

pub returns-in-Err-clause-reached : goal.returns-in-Err-clause-reached
returns-in-Err-clause-reached g c = early_reaches Stdio c.in-Err.status (g.W.Wire.state c.args.wire.now).reached c.in-Err.ensures.early

pub returns-in-Err-clause-touches : goal.returns-in-Err-clause-touches
returns-in-Err-clause-touches g c = untouched _ _ _

pub returns-in-Ok-clause-reported : goal.returns-in-Ok-clause-reported
returns-in-Ok-clause-reported g c = told_behind _ _ _ _ _ (c.in-Ok.ensures.told refl) c.trace_over.ensures.wire.told

pub returns-in-Err-clause-reported : goal.returns-in-Err-clause-reported
returns-in-Err-clause-reported g c = told_before _ _ _ _ c.in-Err.ensures.told
