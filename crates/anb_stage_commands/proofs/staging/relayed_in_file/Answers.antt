use Rattle.anb_command.proofs.Failing.{IsFailure-map}
use Rattle.anb_command.proofs.Preparing.{if_err_map}
use Rattle.anb_lemmas.proofs.Results.{if_ok_map}
use Rattle.anb_stage_commands.specs.Asking.{scene_of, staged}
use Rattle.anb_stage_commands.proofs.Outcomes.{cause_before, fails_in_file, file_cause, in_file, refused_file}
use Rattle.anb_stage_commands.proofs.staging.relayed_in_file.Goals as goal

pub returns-in-Ok-clause-relayed : goal.returns-in-Ok-clause-relayed
returns-in-Ok-clause-relayed g c =
    if_ok_map c.relayed.result _ _ (λ text relays.
    in_file (staged c.args.words) (g.F.Shelf.files c.args.shelf.now) (g.P.Spawner.child c.args.spawner.now) (g.P.Spawner.child c.relayed.new.spawner)
    (scene_of c.args.words.limit c.in-Ok.scene) text.items c.in-Ok.ensures.given relays) c.relayed.ensures.relayed

pub returns-in-Ok-clause-failed : goal.returns-in-Ok-clause-failed
returns-in-Ok-clause-failed g c =
    if_err_map c.relayed.result _ _ (λ status fails.
    fails_in_file (staged c.args.words) (g.F.Shelf.files c.args.shelf.now) (g.P.Spawner.child c.args.spawner.now) (g.P.Spawner.child c.relayed.new.spawner)
    (scene_of c.args.words.limit c.in-Ok.scene) status c.in-Ok.ensures.given fails) c.relayed.ensures.failed

pub returns-in-Ok-clause-cause : goal.returns-in-Ok-clause-cause
returns-in-Ok-clause-cause g c =
    if_err_map c.relayed.result _ _ (λ status cause.
    cause_before (staged c.args.words) (g.P.Spawner.child c.args.spawner.now) (g.P.Spawner.child c.relayed.new.spawner)
    (g.F.Shelf.faults c.args.shelf.now) (g.F.Shelf.faults c.scene_in_files.new.shelf) status cause) c.relayed.ensures.cause

pub returns-in-Err-clause-failed : goal.returns-in-Err-clause-failed
returns-in-Err-clause-failed g c =
    refused_file (staged c.args.words) (g.F.Shelf.files c.args.shelf.now) (g.P.Spawner.child c.args.spawner.now) c.in-Err.status _
    c.in-Err.ensures.refused (λ file at. at.2)

pub returns-in-Err-clause-cause : goal.returns-in-Err-clause-cause
returns-in-Err-clause-cause g c =
    file_cause (staged c.args.words) (g.P.Spawner.child c.args.spawner.now) (g.F.Shelf.faults c.args.shelf.now) (g.F.Shelf.faults c.scene_in_files.new.shelf) _
    c.in-Err.status c.in-Err.ensures.early (IsFailure-map c.in-Err.status _ _ _ _ (λ file at. (at.0, at.1)) (λ is. is) c.in-Err.ensures.refused)
