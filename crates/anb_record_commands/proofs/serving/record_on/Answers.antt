use Rattle.std.proofs.Common.{[], true, inl, ap, ◌∙◌, subst}
use Rattle.anb_base.specs.Wires.{WireState}
use Rattle.anb_base.specs.declared.place.Place.{Place}
use Rattle.anb_host.specs.Hosts.{plays_of}
use Rattle.anb_command.specs.OverWire.{OverWire}
use Rattle.anb_command.proofs.OverWire.{left_unreached, no_memory, not_before, ran}
use Rattle.anb_host_commands.specs.Serving.{runs_by}
use Rattle.anb_host_commands.proofs.Reached.{idle_no_memory, plays_are, serves_after}
use Rattle.anb_record_commands.proofs.Hosted.{records_by, records_none}
use Rattle.anb_record_commands.proofs.serving.record_on.Goals as goal

pub returns-in-Ok-reach-clause-serves : goal.returns-in-Ok-reach-clause-serves
returns-in-Ok-reach-clause-serves g c =
    let p = c.args.prepared in
    let host = c.in-Ok-new.host in
    let made = c.in-Ok-new.ensures in
    serves_after c.in-Ok.place (g.W.Wire.state c.args.wire.now) (g.W.Wire.state c.reach.new.wire) (g.W.Wire.state c.record_now.new.wire) c.in-Ok-reach.ensures.reached
    (plays_of host) (runs_by p.code p.initial p.seed) c.record_now.result.status (plays_are host p.code p.initial p.seed made.code (made.init ∙ c.into_vec-initial.ensures) made.seed)
    (λ events tail left. c.record_now.ensures.serves [] events tail made.empty left)

pub returns-in-Ok-reach-clause-late : goal.returns-in-Ok-reach-clause-late
returns-in-Ok-reach-clause-late g c =
    not_before c.in-Ok.place (g.W.Wire.state c.args.wire.now) (g.W.Wire.state c.reach.new.wire) c.in-Ok-reach.ensures.reached (g.W.Wire.state c.record_now.new.wire) c.record_now.ensures.reached c.record_now.result.status c.record_now.ensures.after

pub returns-in-Ok-reach-clause-wire : goal.returns-in-Ok-reach-clause-wire
returns-in-Ok-reach-clause-wire g c =
    subst (λ (place : Place). OverWire place true c.record_now.result.status (g.W.Wire.state c.args.wire.now) (g.W.Wire.state c.record_now.new.wire)) c.in-Ok.ensures
    (ran c.in-Ok.place (g.W.Wire.state c.args.wire.now) (g.W.Wire.state c.reach.new.wire) c.in-Ok-reach.ensures.reached (g.W.Wire.state c.record_now.new.wire) c.record_now.ensures.reached
    c.record_now.result.status c.record_now.ensures.after (c.record_now.ensures.cause c.in-Ok.place) c.record_now.ensures.told)

pub returns-in-Err-clause-serves : goal.returns-in-Err-clause-serves
returns-in-Err-clause-serves g c = rw c.wanting.ensures.status (inl (idle_no_memory (g.W.Wire.state c.args.wire.now)))

pub returns-in-Err-clause-wire : goal.returns-in-Err-clause-wire
returns-in-Err-clause-wire g c = rw c.wanting.ensures.status (no_memory _ true (g.W.Wire.state c.args.wire.now))

pub returns-in-Err-new-clause-serves : goal.returns-in-Err-new-clause-serves
returns-in-Err-new-clause-serves g c = rw c.wanting-in-Err-new.ensures.status (inl (idle_no_memory (g.W.Wire.state c.args.wire.now)))

pub returns-in-Err-new-clause-wire : goal.returns-in-Err-new-clause-wire
returns-in-Err-new-clause-wire g c = rw c.wanting-in-Err-new.ensures.status (no_memory _ true (g.W.Wire.state c.args.wire.now))

pub returns-in-Ok-reach-clause-why_missed : goal.returns-in-Ok-reach-clause-why_missed
returns-in-Ok-reach-clause-why_missed g c = c.record_now.ensures.why_missed c.in-Ok-new.ensures.empty

pub returns-in-Ok-reach-clause-recorded : goal.returns-in-Ok-reach-clause-recorded
returns-in-Ok-reach-clause-recorded g c = λ some whole.
    let p = c.args.prepared in
    let host = c.in-Ok-new.host in
    let made = c.in-Ok-new.ensures in
    records_by (plays_of host) (runs_by p.code p.initial p.seed) c.args.folder.now (g.J.Store.state c.args.journal.now) (g.J.Store.state c.record_now.new.journal)
    (g.W.Wire.state c.reach.new.wire).left (g.W.Wire.state c.args.wire.now).left (g.W.Wire.state c.record_now.new.wire).left (plays_are host p.code p.initial p.seed made.code (made.init ∙ c.into_vec-initial.ensures) made.seed)
    (ap (λ (w : WireState). w.left) c.in-Ok-reach.ensures.reached.same) (c.record_now.ensures.recorded made.empty some whole)

pub returns-clause-recorded : goal.returns-clause-recorded
returns-clause-recorded g c = λ some whole.
    let p = c.args.prepared in
    records_none (runs_by p.code p.initial p.seed) c.args.folder.now (g.J.Store.state c.args.journal.now) (g.W.Wire.state c.args.wire.now).left (g.W.Wire.state c.reach.new.wire).left
    (left_unreached c.in-Ok.place (g.W.Wire.state c.args.wire.now) (g.W.Wire.state c.reach.new.wire) c.in-Err-reach.ensures.failed)
