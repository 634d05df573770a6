use Rattle.std.proofs.Common.{[], ◌∷◌, refl, inl}
use Rattle.anb_choice.specs.Views.{branched_of}
use Rattle.anb_branch.specs.Taken.{run_taken}
use Rattle.anb_words.specs.Commands.{place_by}
use Rattle.anb_command.proofs.Answering.{refuses_over, runs_over}
use Rattle.anb_command.proofs.Causes.{early_cause, early_reaches, only_memory, wire_cause}
use Rattle.anb_command.proofs.Failing.{IsFailure-map}
use Rattle.anb_command.proofs.OverWire.{untouched}
use Rattle.anb_branch_commands.specs.BranchCommand.{BranchPlayOf}
use Rattle.anb_branch_commands.specs.BranchJobs.{BranchJobIs, IsReadToBranch}
use Rattle.anb_branch_commands.proofs.Completing.{completes_branch}
use Rattle.anb_branch_commands.proofs.Preparing.{job_ready}
use Rattle.anb_branch_commands.proofs.Tasks.{branch_job_one, branch_job_quiet}
use Rattle.anb_command.proofs.Reported.{told_before, told_behind}
use Rattle.anb_record_commands.proofs.Arms.{arm_recorded}
use Rattle.anb_recording.specs.Joining.{others_still}
use Rattle.anb_record_commands.specs.Outcomes.{IsOfFolder}
use Rattle.anb_record_commands.proofs.Asked.{not_early}
use Rattle.anb_record_commands.proofs.branching.branch_recorded.Goals as goal

pub returns-in-Ok-clause-does : goal.returns-in-Ok-clause-does
returns-in-Ok-clause-does g c =
    let words = c.args.words in
    let play = words.play in
    let p = c.in-Ok.prepared in
    let R = run_taken (branched_of p.branched) play.name.now words.told p.means.initial p.means.seed p.codes.items in
    runs_over BranchPlayOf (λ files. BranchJobIs files play.narration.now play.name.now play.values.now words.told c.args.host_seed) (λ files. IsReadToBranch files play.narration.now play.name.now play.values.now words.told)
    (λ files. branch_job_one c.choices_are_unique.ensures c.branch_refusals_are_unique.ensures c.no_choice_is_refused.ensures c.one_fit.ensures files play.narration.now play.name.now play.values.now words.told c.args.host_seed)
    (λ files. branch_job_quiet files play.narration.now play.name.now play.values.now words.told c.args.host_seed)
    c.record_arms.result.status R c.record_arms.ensures.late (g.F.Shelf.files c.args.shelf.now) (g.W.Wire.state c.args.wire.now) (g.W.Wire.state c.record_arms.new.wire)
    (job_ready (g.F.Shelf.files c.args.shelf.now) play.narration.now play.name.now play.values.now words.told c.args.host_seed (branched_of p.branched) p.means.initial p.means.seed R c.record_arms.ensures.plays c.in-Ok.ensures.given)
    c.record_arms.ensures.runs c.record_arms.ensures.prompt

pub returns-in-Ok-clause-faults : goal.returns-in-Ok-clause-faults
returns-in-Ok-clause-faults g c =
    let play = c.args.words.play in
    wire_cause (play.narration.now ∷ play.values.now ∷ []) (place_by play.endpoint) (g.F.Shelf.faults c.args.shelf.now) (g.F.Shelf.faults c.prepare.new.shelf) (g.W.Wire.state c.args.wire.now) (g.W.Wire.state c.record_arms.new.wire) c.record_arms.result.status c.record_arms.ensures.wire.cause

pub returns-in-Ok-clause-completes : goal.returns-in-Ok-clause-completes
returns-in-Ok-clause-completes g c = λ none.
    let words = c.args.words in
    let play = words.play in
    completes_branch play.narration.now play.name.now play.values.now words.told c.args.host_seed
    (λ files. branch_job_one c.choices_are_unique.ensures c.branch_refusals_are_unique.ensures c.no_choice_is_refused.ensures c.one_fit.ensures files play.narration.now play.name.now play.values.now words.told c.args.host_seed)
    c.one_cut.ensures.exists (g.F.Shelf.files c.args.shelf.now) (g.W.Wire.state c.args.wire.now) (g.W.Wire.state c.record_arms.new.wire) c.record_arms.result.status (returns-in-Ok-clause-does g c)
    (only_memory (play.narration.now ∷ play.values.now ∷ []) (place_by play.endpoint) (g.F.Shelf.faults c.args.shelf.now) (g.F.Shelf.faults c.prepare.new.shelf) (g.W.Wire.state c.args.wire.now) (g.W.Wire.state c.record_arms.new.wire) none c.record_arms.result.status (returns-in-Ok-clause-faults g c))

pub returns-in-Ok-clause-reached : goal.returns-in-Ok-clause-reached
returns-in-Ok-clause-reached g c = c.record_arms.ensures.wire.reached

pub returns-in-Ok-clause-touches : goal.returns-in-Ok-clause-touches
returns-in-Ok-clause-touches g c = c.record_arms.ensures.wire.touches

pub returns-in-Err-clause-does : goal.returns-in-Err-clause-does
returns-in-Err-clause-does g c =
    let words = c.args.words in
    let play = words.play in
    refuses_over BranchPlayOf (λ files. BranchJobIs files play.narration.now play.name.now play.values.now words.told c.args.host_seed) (λ files. IsReadToBranch files play.narration.now play.name.now play.values.now words.told)
    (λ files. branch_job_one c.choices_are_unique.ensures c.branch_refusals_are_unique.ensures c.no_choice_is_refused.ensures c.one_fit.ensures files play.narration.now play.name.now play.values.now words.told c.args.host_seed)
    (λ files. branch_job_quiet files play.narration.now play.name.now play.values.now words.told c.args.host_seed)
    (g.F.Shelf.files c.args.shelf.now) (g.W.Wire.state c.args.wire.now) c.in-Err.status (IsFailure-map c.in-Err.status _ _ _ _ (λ file at. at.2) (λ is. is) c.in-Err.ensures.refused)

pub returns-in-Err-clause-faults : goal.returns-in-Err-clause-faults
returns-in-Err-clause-faults g c =
    let play = c.args.words.play in
    early_cause (play.narration.now ∷ play.values.now ∷ []) (place_by play.endpoint) (g.F.Shelf.faults c.args.shelf.now) (g.F.Shelf.faults c.prepare.new.shelf) (g.W.Wire.state c.args.wire.now) (g.W.Wire.state c.args.wire.now)
    c.in-Err.status _ c.in-Err.ensures.early
    (IsFailure-map c.in-Err.status _ _ _ _ (λ file at. (at.0, at.1)) (λ is. is) c.in-Err.ensures.refused)

pub returns-in-Err-clause-completes : goal.returns-in-Err-clause-completes
returns-in-Err-clause-completes g c = λ none.
    let words = c.args.words in
    let play = words.play in
    completes_branch play.narration.now play.name.now play.values.now words.told c.args.host_seed
    (λ files. branch_job_one c.choices_are_unique.ensures c.branch_refusals_are_unique.ensures c.no_choice_is_refused.ensures c.one_fit.ensures files play.narration.now play.name.now play.values.now words.told c.args.host_seed)
    c.one_cut.ensures.exists (g.F.Shelf.files c.args.shelf.now) (g.W.Wire.state c.args.wire.now) (g.W.Wire.state c.args.wire.now) c.in-Err.status (returns-in-Err-clause-does g c)
    (only_memory (play.narration.now ∷ play.values.now ∷ []) (place_by play.endpoint) (g.F.Shelf.faults c.args.shelf.now) (g.F.Shelf.faults c.prepare.new.shelf) (g.W.Wire.state c.args.wire.now) (g.W.Wire.state c.args.wire.now) none c.in-Err.status (returns-in-Err-clause-faults g c))

pub returns-in-Err-clause-reached : goal.returns-in-Err-clause-reached
returns-in-Err-clause-reached g c = early_reaches (place_by c.args.words.play.endpoint) c.in-Err.status (g.W.Wire.state c.args.wire.now).reached c.in-Err.ensures.early

pub returns-in-Err-clause-touches : goal.returns-in-Err-clause-touches
returns-in-Err-clause-touches g c = untouched _ _ _

pub returns-in-Ok-clause-reported : goal.returns-in-Ok-clause-reported
returns-in-Ok-clause-reported g c = told_behind _ _ _ _ _ (c.in-Ok.ensures.told refl) c.record_arms.ensures.wire.told

pub returns-in-Err-clause-reported : goal.returns-in-Err-clause-reported
returns-in-Err-clause-reported g c = told_before _ _ _ _ c.in-Err.ensures.told

pub returns-in-Ok-clause-early : goal.returns-in-Ok-clause-early
returns-in-Ok-clause-early g c = λ early. absurd (c.record_arms.ensures.late early)

pub returns-in-Ok-clause-fresh : goal.returns-in-Ok-clause-fresh
returns-in-Ok-clause-fresh g c = c.record_arms.ensures.fresh

pub returns-in-Err-clause-fresh : goal.returns-in-Err-clause-fresh
returns-in-Err-clause-fresh g c = inl refl

pub returns-in-Ok-clause-recorded : goal.returns-in-Ok-clause-recorded
returns-in-Ok-clause-recorded g c = λ late some whole after.
    let p = c.in-Ok.prepared in
    let words = c.args.words in
    let play = words.play in
    arm_recorded (λ files. BranchJobIs files play.narration.now play.name.now play.values.now words.told c.args.host_seed) (g.F.Shelf.files c.args.shelf.now) (branched_of p.branched) play.name.now words.told p.means.initial p.means.seed
    c.args.folder.now (g.J.Store.state c.args.journal.now) (g.J.Store.state c.record_arms.new.journal) (g.W.Wire.state c.args.wire.now).left c.record_arms.result.status
    c.in-Ok.ensures.given (c.record_arms.ensures.recorded after whole)

pub returns-in-Err-clause-why_missed : goal.returns-in-Err-clause-why_missed
returns-in-Err-clause-why_missed g c = λ some. (refl, others_still (IsOfFolder c.args.folder.now) (g.J.Store.state c.args.journal.now))

pub returns-in-Err-clause-recorded : goal.returns-in-Err-clause-recorded
returns-in-Err-clause-recorded g c = λ late some whole after. absurd (not_early c.in-Err.status c.in-Err.ensures.early late some)
