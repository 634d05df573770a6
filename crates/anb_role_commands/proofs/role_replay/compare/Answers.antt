use Rattle.std.proofs.Common.{◌≡◌, ℕ, List, refl, subst}
use Rattle.anb_machine.specs.ByteRuns.{run_bytes}
use Rattle.anb_machine.specs.Machines.{gives}
use Rattle.anb_transcript.specs.declared.following.ReplayEnd.TheVariants as replayed
use Rattle.anb_role_commands.proofs.Replaying.{replayed_by}
use Rattle.anb_role_commands.proofs.role_replay.compare.Goals as goal

pub returns : goal.returns
returns c =
    let p = c.args.prepared.now in
    let machine = c.in-Ok.machine in
    let same = subst (λ (init : List (List ℕ)). (arrivals : List (List ℕ)) → gives machine arrivals ≡ run_bytes p.code init p.seed c.args.session arrivals) c.as_slice-initial.ensures c.in-Ok.ensures.run in
    replayed_by (gives machine) (run_bytes p.code p.initial p.seed c.args.session) same c.args.transcript.now c.replay.result c.status_of.result c.replay.ensures c.status_of.ensures

pub returns-in-Err : goal.returns-in-Err
returns-in-Err c = (replayed.NoMemory, tt, refl)
