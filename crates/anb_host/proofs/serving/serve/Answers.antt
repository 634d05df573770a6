use Rattle.anb_host.specs.Hosts.{plays_of}
use Rattle.anb_host.proofs.Served.{nothing_served}
use Rattle.anb_host.proofs.serving.serve.Goals as goal

pub returns-then-has_failed-clause-serves : goal.returns-then-has_failed-clause-serves
returns-then-has_failed-clause-serves g c = λ past events tail st left.
    nothing_served (plays_of (g.H.Servable.host c.args.host.now)) past events tail c.args.budget (g.W.Wire.state c.args.wire.now)
