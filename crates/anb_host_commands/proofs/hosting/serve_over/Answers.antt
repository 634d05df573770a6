use Rattle.std.proofs.Common.{[], true, inl, ◌∙◌, subst}
use Rattle.anb_base.specs.declared.place.Place.{Place}
use Rattle.anb_host.specs.Hosts.{plays_of}
use Rattle.anb_command.specs.OverWire.{OverWire}
use Rattle.anb_command.proofs.OverWire.{no_memory, not_before, ran}
use Rattle.anb_host_commands.specs.Serving.{runs_by}
use Rattle.anb_host_commands.proofs.Reached.{idle_no_memory, plays_are, serves_after}
use Rattle.anb_host_commands.proofs.hosting.serve_over.Goals as goal

pub returns-in-Ok-reach-clause-serves : goal.returns-in-Ok-reach-clause-serves
returns-in-Ok-reach-clause-serves g c =
    let p = c.args.prepared in
    let host = c.in-Ok-new.host in
    let made = c.in-Ok-new.ensures in
    serves_after c.in-Ok.place (g.W.Wire.state c.args.wire.now) (g.W.Wire.state c.reach.new.wire) (g.W.Wire.state c.serve_now.new.wire) c.in-Ok-reach.ensures.reached
    (plays_of host) (runs_by p.code p.initial p.seed) c.serve_now.result (plays_are host p.code p.initial p.seed made.code (made.init ∙ c.into_vec-initial.ensures) made.seed)
    (λ events tail left. c.serve_now.ensures.serves [] events tail made.empty left)

pub returns-in-Ok-reach-clause-late : goal.returns-in-Ok-reach-clause-late
returns-in-Ok-reach-clause-late g c =
    not_before c.in-Ok.place (g.W.Wire.state c.args.wire.now) (g.W.Wire.state c.reach.new.wire) c.in-Ok-reach.ensures.reached (g.W.Wire.state c.serve_now.new.wire) c.serve_now.ensures.reached c.serve_now.result c.serve_now.ensures.after

pub returns-in-Ok-reach-clause-wire : goal.returns-in-Ok-reach-clause-wire
returns-in-Ok-reach-clause-wire g c =
    subst (λ (place : Place). OverWire place true c.serve_now.result (g.W.Wire.state c.args.wire.now) (g.W.Wire.state c.serve_now.new.wire)) c.in-Ok.ensures
    (ran c.in-Ok.place (g.W.Wire.state c.args.wire.now) (g.W.Wire.state c.reach.new.wire) c.in-Ok-reach.ensures.reached (g.W.Wire.state c.serve_now.new.wire) c.serve_now.ensures.reached
    c.serve_now.result c.serve_now.ensures.after (c.serve_now.ensures.cause c.in-Ok.place) c.serve_now.ensures.told)

pub returns-in-Err-clause-serves : goal.returns-in-Err-clause-serves
returns-in-Err-clause-serves g c = inl (idle_no_memory (g.W.Wire.state c.args.wire.now))

pub returns-in-Err-clause-wire : goal.returns-in-Err-clause-wire
returns-in-Err-clause-wire g c = no_memory _ true (g.W.Wire.state c.args.wire.now)

pub returns-in-Err-new-clause-serves : goal.returns-in-Err-new-clause-serves
returns-in-Err-new-clause-serves g c = inl (idle_no_memory (g.W.Wire.state c.args.wire.now))

pub returns-in-Err-new-clause-wire : goal.returns-in-Err-new-clause-wire
returns-in-Err-new-clause-wire g c = no_memory _ true (g.W.Wire.state c.args.wire.now)
