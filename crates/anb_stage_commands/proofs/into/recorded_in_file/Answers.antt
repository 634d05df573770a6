use Rattle.anb_command.proofs.Failing.{IsFailure-map}
use Rattle.anb_command.proofs.Preparing.{if_err_map}
use Rattle.anb_lemmas.proofs.Results.{if_ok_map}
use Rattle.anb_stage_commands.specs.Asking.{scene_of, staged}
use Rattle.anb_stage_commands.proofs.Kept.{kept_given, kept_refused, relay_leaves}
use Rattle.anb_stage_commands.proofs.Outcomes.{cause_before, fails_in_file, file_cause, in_file, refused_file}
use Rattle.anb_stage_commands.proofs.into.recorded_in_file.Goals as goal

pub returns-in-Ok-clause-relayed : goal.returns-in-Ok-clause-relayed
returns-in-Ok-clause-relayed g c =
    if_ok_map c.recorded.result.outcome _ _ (λ text relays.
    in_file (staged c.args.words) (g.F.Shelf.files c.args.shelf.now) (g.P.Spawner.child c.args.spawner.now) (g.P.Spawner.child c.recorded.new.spawner)
    (scene_of c.args.words.limit c.in-Ok.scene) text.items c.in-Ok.ensures.given relays) c.recorded.ensures.relayed

pub returns-in-Ok-clause-failed : goal.returns-in-Ok-clause-failed
returns-in-Ok-clause-failed g c =
    if_err_map c.recorded.result.outcome _ _ (λ status fails.
    fails_in_file (staged c.args.words) (g.F.Shelf.files c.args.shelf.now) (g.P.Spawner.child c.args.spawner.now) (g.P.Spawner.child c.recorded.new.spawner)
    (scene_of c.args.words.limit c.in-Ok.scene) status c.in-Ok.ensures.given fails) c.recorded.ensures.failed

pub returns-in-Ok-clause-cause : goal.returns-in-Ok-clause-cause
returns-in-Ok-clause-cause g c =
    if_err_map c.recorded.result.outcome _ _ (λ status cause.
    cause_before (staged c.args.words) (g.P.Spawner.child c.args.spawner.now) (g.P.Spawner.child c.recorded.new.spawner)
    (g.F.Shelf.faults c.args.shelf.now) (g.F.Shelf.faults c.scene_in_files.new.shelf) status cause) c.recorded.ensures.cause

pub returns-in-Err-clause-failed : goal.returns-in-Err-clause-failed
returns-in-Err-clause-failed g c =
    refused_file (staged c.args.words) (g.F.Shelf.files c.args.shelf.now) (g.P.Spawner.child c.args.spawner.now) c.in-Err.status _
    c.in-Err.ensures.refused (λ file at. at.2)

pub returns-in-Err-clause-cause : goal.returns-in-Err-clause-cause
returns-in-Err-clause-cause g c =
    file_cause (staged c.args.words) (g.P.Spawner.child c.args.spawner.now) (g.F.Shelf.faults c.args.shelf.now) (g.F.Shelf.faults c.scene_in_files.new.shelf) _
    c.in-Err.status c.in-Err.ensures.early (IsFailure-map c.in-Err.status _ _ _ _ (λ file at. (at.0, at.1)) (λ is. is) c.in-Err.ensures.refused)

pub returns-in-Ok-clause-kept : goal.returns-in-Ok-clause-kept
returns-in-Ok-clause-kept g c =
    kept_given c.narrations_are_unique.ensures c.refusals_are_unique.ensures c.none_is_both.ensures c.one_fit.ensures (staged c.args.words) c.args.folder.now (g.F.Shelf.files c.args.shelf.now)
    (g.P.Spawner.child c.args.spawner.now) (g.P.Spawner.child c.recorded.new.spawner) (g.J.Store.state c.args.journal.now) (g.J.Store.state c.recorded.new.journal)
    (scene_of c.args.words.limit c.in-Ok.scene) c.recorded.result.outcome c.recorded.result.missing c.in-Ok.ensures.given
    (relay_leaves c.args.words.limit (g.P.Spawner.child c.args.spawner.now) (g.P.Spawner.child c.recorded.new.spawner) c.recorded.result.outcome c.recorded.ensures.cause) c.recorded.ensures.kept

pub returns-in-Err-clause-kept : goal.returns-in-Err-clause-kept
returns-in-Err-clause-kept g c =
    kept_refused c.narrations_are_unique.ensures c.refusals_are_unique.ensures c.none_is_both.ensures c.one_fit.ensures (staged c.args.words) c.args.folder.now (g.F.Shelf.files c.args.shelf.now)
    (g.P.Spawner.child c.args.spawner.now) (g.J.Store.state c.args.journal.now) c.in-Err.status _ c.in-Err.ensures.refused
