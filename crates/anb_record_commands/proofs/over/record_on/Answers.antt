use Rattle.std.proofs.Common.{List, ℕ, true, subst, ap, refl, inr, ◌≡◌}
use Rattle.anb_base.specs.declared.place.Place.{Place}
use Rattle.anb_base.specs.Wires.{WireState}
use Rattle.anb_record_commands.proofs.Recorded.{records_as, records_nothing}
use Rattle.anb_machine.specs.ByteRuns.{run_bytes}
use Rattle.anb_machine.specs.Machines.{gives}
use Rattle.anb_plays.specs.Plays.{Played}
use Rattle.anb_command.specs.OverWire.{OverWire}
use Rattle.anb_status.specs.declared.status.Status.TheVariants.{Unreached}
use Rattle.anb_command.proofs.OverWire.{left_unreached, no_memory, not_before, not_reached, ran, runs_after, runs_nowhere, taken_unreached, written_unreached}
use Rattle.anb_session.proofs.Prompt.{prompt_as}
use Rattle.anb_command.proofs.Prompt.{prompt_after, prompt_nowhere}
use Rattle.anb_record_commands.proofs.over.record_on.Goals as goal

pub returns-in-Ok-reach-clause-runs : goal.returns-in-Ok-reach-clause-runs
returns-in-Ok-reach-clause-runs g c =
    let p = c.args.prepared.now in
    let machine = c.in-Ok-start.machine in
    let same = subst (λ (init : List (List ℕ)). (arrivals : List (List ℕ)) → gives machine arrivals ≡ run_bytes p.code init p.seed 0 arrivals) c.as_slice-initial.ensures c.in-Ok-start.ensures.run in
    runs_after c.in-Ok.place (g.W.Wire.state c.args.wire.now) (g.W.Wire.state c.reach.new.wire) c.in-Ok-reach.ensures.reached (gives machine) (run_bytes p.code p.initial p.seed 0) same
    (g.W.Wire.state c.record_now.new.wire) c.record_now.result.status c.record_now.ensures.runs

pub returns-in-Ok-reach-clause-prompt : goal.returns-in-Ok-reach-clause-prompt
returns-in-Ok-reach-clause-prompt g c =
    let p = c.args.prepared.now in
    let machine = c.in-Ok-start.machine in
    let same = subst (λ (init : List (List ℕ)). (arrivals : List (List ℕ)) → gives machine arrivals ≡ run_bytes p.code init p.seed 0 arrivals) c.as_slice-initial.ensures c.in-Ok-start.ensures.run in
    prompt_as (gives machine) (run_bytes p.code p.initial p.seed 0) (g.W.Wire.state c.args.wire.now) (g.W.Wire.state c.record_now.new.wire) same
    (prompt_after (gives machine) c.in-Ok.place (g.W.Wire.state c.args.wire.now) (g.W.Wire.state c.reach.new.wire) (g.W.Wire.state c.record_now.new.wire) c.in-Ok-reach.ensures.reached c.record_now.ensures.prompt)

pub returns-in-Ok-reach-clause-wire : goal.returns-in-Ok-reach-clause-wire
returns-in-Ok-reach-clause-wire g c =
    subst (λ (place : Place). OverWire place true c.record_now.result.status (g.W.Wire.state c.args.wire.now) (g.W.Wire.state c.record_now.new.wire)) c.in-Ok.ensures
    (ran c.in-Ok.place (g.W.Wire.state c.args.wire.now) (g.W.Wire.state c.reach.new.wire) c.in-Ok-reach.ensures.reached (g.W.Wire.state c.record_now.new.wire) c.record_now.ensures.reached
    c.record_now.result.status c.record_now.ensures.after (c.record_now.ensures.cause c.in-Ok.place) c.record_now.ensures.told)

pub returns-in-Ok-reach-clause-late : goal.returns-in-Ok-reach-clause-late
returns-in-Ok-reach-clause-late g c =
    not_before c.in-Ok.place (g.W.Wire.state c.args.wire.now) (g.W.Wire.state c.reach.new.wire) c.in-Ok-reach.ensures.reached (g.W.Wire.state c.record_now.new.wire) c.record_now.ensures.reached c.record_now.result.status c.record_now.ensures.after

pub returns-in-Err-reach-clause-wire : goal.returns-in-Err-reach-clause-wire
returns-in-Err-reach-clause-wire g c =
    subst (λ (place : Place). OverWire place true (Unreached c.in-Ok.place) (g.W.Wire.state c.args.wire.now) (g.W.Wire.state c.reach.new.wire)) c.in-Ok.ensures
    (not_reached c.in-Ok.place (g.W.Wire.state c.args.wire.now) (g.W.Wire.state c.reach.new.wire) c.in-Err-reach.ensures.failed true)

pub returns-in-Err-reach-clause-runs : goal.returns-in-Err-reach-clause-runs
returns-in-Err-reach-clause-runs g c = λ arrivals tail cut. (
  left_unreached c.in-Ok.place (g.W.Wire.state c.args.wire.now) (g.W.Wire.state c.reach.new.wire) c.in-Err-reach.ensures.failed,
  written_unreached c.in-Ok.place (g.W.Wire.state c.args.wire.now) (g.W.Wire.state c.reach.new.wire) c.in-Err-reach.ensures.failed,
)

pub returns-in-Err-reach-clause-prompt : goal.returns-in-Err-reach-clause-prompt
returns-in-Err-reach-clause-prompt g c =
    let p = c.args.prepared.now in
    prompt_nowhere (run_bytes p.code p.initial p.seed 0) (g.W.Wire.state c.args.wire.now) (g.W.Wire.state c.reach.new.wire)
    (left_unreached c.in-Ok.place (g.W.Wire.state c.args.wire.now) (g.W.Wire.state c.reach.new.wire) c.in-Err-reach.ensures.failed)
    (taken_unreached c.in-Ok.place (g.W.Wire.state c.args.wire.now) (g.W.Wire.state c.reach.new.wire) c.in-Err-reach.ensures.failed)

pub returns-in-Err-clause-runs : goal.returns-in-Err-clause-runs
returns-in-Err-clause-runs g c = let p = c.args.prepared.now in runs_nowhere (run_bytes p.code p.initial p.seed 0) (g.W.Wire.state c.args.wire.now)

pub returns-in-Err-clause-prompt : goal.returns-in-Err-clause-prompt
returns-in-Err-clause-prompt g c =
    let p = c.args.prepared.now in prompt_nowhere (run_bytes p.code p.initial p.seed 0) (g.W.Wire.state c.args.wire.now) (g.W.Wire.state c.args.wire.now) refl refl

pub returns-in-Err-clause-wire : goal.returns-in-Err-clause-wire
returns-in-Err-clause-wire g c = no_memory _ true (g.W.Wire.state c.args.wire.now)

pub returns-in-Err-start-clause-runs : goal.returns-in-Err-start-clause-runs
returns-in-Err-start-clause-runs g c = let p = c.args.prepared.now in runs_nowhere (run_bytes p.code p.initial p.seed 0) (g.W.Wire.state c.args.wire.now)

pub returns-in-Err-start-clause-prompt : goal.returns-in-Err-start-clause-prompt
returns-in-Err-start-clause-prompt g c =
    let p = c.args.prepared.now in prompt_nowhere (run_bytes p.code p.initial p.seed 0) (g.W.Wire.state c.args.wire.now) (g.W.Wire.state c.args.wire.now) refl refl

pub returns-in-Err-start-clause-wire : goal.returns-in-Err-start-clause-wire
returns-in-Err-start-clause-wire g c = no_memory _ true (g.W.Wire.state c.args.wire.now)

pub returns-in-Ok-reach-clause-recorded : goal.returns-in-Ok-reach-clause-recorded
returns-in-Ok-reach-clause-recorded g c = λ some whole.
    let p = c.args.prepared.now in
    let machine = c.in-Ok-start.machine in
    let same = subst (λ (init : List (List ℕ)). (arrivals : List (List ℕ)) → gives machine arrivals ≡ run_bytes p.code init p.seed 0 arrivals) c.as_slice-initial.ensures c.in-Ok-start.ensures.run in
    records_as (gives machine) (run_bytes p.code p.initial p.seed 0) c.args.transcript (g.J.Store.state c.args.journal.now) (g.J.Store.state c.record_now.new.journal) (g.W.Wire.state c.reach.new.wire).left (g.W.Wire.state c.args.wire.now).left
    c.record_now.result.status same (ap (λ (w : WireState). w.left) c.in-Ok-reach.ensures.reached.same) (c.record_now.ensures.recorded some whole)

pub returns-in-Err-reach-clause-recorded : goal.returns-in-Err-reach-clause-recorded
returns-in-Err-reach-clause-recorded g c = λ some whole.
    let p = c.args.prepared.now in
    records_nothing (run_bytes p.code p.initial p.seed 0) c.args.transcript (g.J.Store.state c.args.journal.now) (g.W.Wire.state c.args.wire.now).left (Unreached c.in-Ok.place) (inr (c.in-Ok.place, refl, refl))

pub returns-in-Err-clause-recorded : goal.returns-in-Err-clause-recorded
returns-in-Err-clause-recorded g c = λ some whole. absurd (some refl)

pub returns-in-Err-start-clause-recorded : goal.returns-in-Err-start-clause-recorded
returns-in-Err-start-clause-recorded g c = λ some whole. absurd (some refl)
