use Rattle.std.proofs.Common.{[], ◌∷◌, refl, inl}
use Rattle.anb_code.specs.Taking.{take_texts}
use Rattle.anb_words.specs.Commands.{place_by}
use Rattle.anb_command.proofs.Causes.{early_cause, early_reaches, only_memory, wire_cause}
use Rattle.anb_command.proofs.Failing.{IsFailure-map}
use Rattle.anb_command.proofs.OverWire.{untouched}
use Rattle.anb_role_commands.proofs.Tasks.{job_one, job_quiet}
use Rattle.anb_host_commands.proofs.Completing.{completes_host}
use Rattle.anb_host_commands.proofs.Serving.{refuses_host, serves_host}
use Rattle.anb_command.proofs.Reported.{told_before, told_behind}
use Rattle.anb_recording.specs.Joining.{others_still}
use Rattle.anb_record_commands.specs.HostInto.{IsOfHost}
use Rattle.anb_record_commands.proofs.Asked.{not_early}
use Rattle.anb_record_commands.proofs.Hosted.{sessions_recorded}
use Rattle.anb_record_commands.proofs.hosting.host_recorded.Goals as goal

pub returns-in-Ok-clause-does : goal.returns-in-Ok-clause-does
returns-in-Ok-clause-does g c =
    let words = c.args.words in
    let p = c.in-Ok.prepared in
    serves_host words.narration.now words.name.now words.values.now c.args.host_seed
    (λ files. job_one c.narrations_are_unique.ensures c.refusals_are_unique.ensures c.none_is_both.ensures c.one_fit.ensures files words.narration.now words.name.now words.values.now c.args.host_seed)
    (λ files. job_quiet files words.narration.now words.name.now words.values.now c.args.host_seed)
    (g.W.Wire.state c.args.wire.now) (g.W.Wire.state c.host_over.new.wire) c.host_over.result.status p.code p.initial p.seed c.host_over.ensures.serves c.host_over.ensures.late
    (g.F.Shelf.files c.args.shelf.now) c.in-Ok.ensures.sessions

pub returns-in-Ok-clause-faults : goal.returns-in-Ok-clause-faults
returns-in-Ok-clause-faults g c =
    wire_cause (c.args.words.narration.now ∷ c.args.words.values.now ∷ []) (place_by c.args.words.endpoint) (g.F.Shelf.faults c.args.shelf.now) (g.F.Shelf.faults c.prepare.new.shelf) (g.W.Wire.state c.args.wire.now) (g.W.Wire.state c.host_over.new.wire) c.host_over.result.status c.host_over.ensures.wire.cause

pub returns-in-Ok-clause-completes : goal.returns-in-Ok-clause-completes
returns-in-Ok-clause-completes g c = λ none.
    let words = c.args.words in
    completes_host words.narration.now words.name.now words.values.now c.args.host_seed
    (λ files. job_one c.narrations_are_unique.ensures c.refusals_are_unique.ensures c.none_is_both.ensures c.one_fit.ensures files words.narration.now words.name.now words.values.now c.args.host_seed)
    (g.F.Shelf.files c.args.shelf.now) (g.W.Wire.state c.args.wire.now) (g.W.Wire.state c.host_over.new.wire) c.host_over.result.status (returns-in-Ok-clause-does g c)
    (only_memory (words.narration.now ∷ words.values.now ∷ []) (place_by words.endpoint) (g.F.Shelf.faults c.args.shelf.now) (g.F.Shelf.faults c.prepare.new.shelf) (g.W.Wire.state c.args.wire.now) (g.W.Wire.state c.host_over.new.wire) none c.host_over.result.status (returns-in-Ok-clause-faults g c))

pub returns-in-Ok-clause-reached : goal.returns-in-Ok-clause-reached
returns-in-Ok-clause-reached g c = c.host_over.ensures.wire.reached

pub returns-in-Ok-clause-touches : goal.returns-in-Ok-clause-touches
returns-in-Ok-clause-touches g c = c.host_over.ensures.wire.touches

pub returns-in-Err-clause-does : goal.returns-in-Err-clause-does
returns-in-Err-clause-does g c =
    let words = c.args.words in
    refuses_host words.narration.now words.name.now words.values.now c.args.host_seed
    (λ files. job_one c.narrations_are_unique.ensures c.refusals_are_unique.ensures c.none_is_both.ensures c.one_fit.ensures files words.narration.now words.name.now words.values.now c.args.host_seed)
    (λ files. job_quiet files words.narration.now words.name.now words.values.now c.args.host_seed)
    (g.F.Shelf.files c.args.shelf.now) (g.W.Wire.state c.args.wire.now) c.in-Err.status (IsFailure-map c.in-Err.status _ _ _ _ (λ file at. at.2) (λ is. is) c.in-Err.ensures.refused)

pub returns-in-Err-clause-faults : goal.returns-in-Err-clause-faults
returns-in-Err-clause-faults g c =
    let words = c.args.words in
    early_cause (words.narration.now ∷ words.values.now ∷ []) (place_by words.endpoint) (g.F.Shelf.faults c.args.shelf.now) (g.F.Shelf.faults c.prepare.new.shelf) (g.W.Wire.state c.args.wire.now) (g.W.Wire.state c.args.wire.now)
    c.in-Err.status _ c.in-Err.ensures.early
    (IsFailure-map c.in-Err.status _ _ _ _ (λ file at. (at.0, at.1)) (λ is. is) c.in-Err.ensures.refused)

pub returns-in-Err-clause-completes : goal.returns-in-Err-clause-completes
returns-in-Err-clause-completes g c = λ none.
    let words = c.args.words in
    completes_host words.narration.now words.name.now words.values.now c.args.host_seed
    (λ files. job_one c.narrations_are_unique.ensures c.refusals_are_unique.ensures c.none_is_both.ensures c.one_fit.ensures files words.narration.now words.name.now words.values.now c.args.host_seed)
    (g.F.Shelf.files c.args.shelf.now) (g.W.Wire.state c.args.wire.now) (g.W.Wire.state c.args.wire.now) c.in-Err.status (returns-in-Err-clause-does g c)
    (only_memory (words.narration.now ∷ words.values.now ∷ []) (place_by words.endpoint) (g.F.Shelf.faults c.args.shelf.now) (g.F.Shelf.faults c.prepare.new.shelf) (g.W.Wire.state c.args.wire.now) (g.W.Wire.state c.args.wire.now) none c.in-Err.status (returns-in-Err-clause-faults g c))

pub returns-in-Err-clause-reached : goal.returns-in-Err-clause-reached
returns-in-Err-clause-reached g c = early_reaches (place_by c.args.words.endpoint) c.in-Err.status (g.W.Wire.state c.args.wire.now).reached c.in-Err.ensures.early

pub returns-in-Err-clause-touches : goal.returns-in-Err-clause-touches
returns-in-Err-clause-touches g c = untouched _ _ _

pub returns-in-Ok-clause-reported : goal.returns-in-Ok-clause-reported
returns-in-Ok-clause-reported g c = told_behind _ _ _ _ _ (c.in-Ok.ensures.told refl) c.host_over.ensures.wire.told

pub returns-in-Err-clause-reported : goal.returns-in-Err-clause-reported
returns-in-Err-clause-reported g c = told_before _ _ _ _ c.in-Err.ensures.told

pub returns-in-Ok-clause-early : goal.returns-in-Ok-clause-early
returns-in-Ok-clause-early g c = λ early. absurd (c.host_over.ensures.late early)

pub returns-in-Ok-clause-fresh : goal.returns-in-Ok-clause-fresh
returns-in-Ok-clause-fresh g c = c.host_over.ensures.fresh

pub returns-in-Err-clause-fresh : goal.returns-in-Err-clause-fresh
returns-in-Err-clause-fresh g c = inl refl

pub returns-in-Ok-clause-recorded : goal.returns-in-Ok-clause-recorded
returns-in-Ok-clause-recorded g c = λ late some whole.
    let p = c.in-Ok.prepared in
    let words = c.args.words in
    sessions_recorded words.narration.now words.name.now words.values.now c.args.host_seed
    (λ files. job_one c.narrations_are_unique.ensures c.refusals_are_unique.ensures c.none_is_both.ensures c.one_fit.ensures files words.narration.now words.name.now words.values.now c.args.host_seed)
    c.inputs_have_one_reading.ensures.exists c.files_are_of_sessions.ensures c.lines_are_transcripts.ensures (g.F.Shelf.files c.args.shelf.now) p.code p.initial p.seed
    c.args.folder.now (g.J.Store.state c.args.journal.now) (g.J.Store.state c.host_over.new.journal) (g.W.Wire.state c.args.wire.now) (g.W.Wire.state c.host_over.new.wire) c.host_over.result.status
    c.in-Ok.ensures.prepared c.in-Ok.ensures.sessions (c.host_over.ensures.recorded some whole)

pub returns-in-Err-clause-why_missed : goal.returns-in-Err-clause-why_missed
returns-in-Err-clause-why_missed g c = λ some. (refl, others_still (IsOfHost c.args.folder.now) (g.J.Store.state c.args.journal.now))

pub returns-in-Err-clause-recorded : goal.returns-in-Err-clause-recorded
returns-in-Err-clause-recorded g c = λ late some whole. absurd (not_early c.in-Err.status c.in-Err.ensures.early late some)
