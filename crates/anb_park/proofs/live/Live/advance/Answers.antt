use Rattle.std.proofs.Common.{◌≡◌, [], subst}
use Rattle.anb_machine.specs.Machines.{MachineValue, gives, turn_of, Turned}
use Rattle.anb_park.specs.Inside.{live_of}
use Rattle.anb_park.proofs.Standing.{sound_machine, sound_body, stands_turning}
use Rattle.anb_park.proofs.live.Live.advance.Goals as goal

pub returns-clause-turned : goal.returns-clause-turned
returns-clause-turned c =
    rw c.if-self.false
    (subst (λ (m : MachineValue). Turned m c.advance.new.self c.advance.result) (sound_machine c.self.inside c.args.self.now c.self.view_is c.if-self.false) c.advance.ensures.turned)

pub returns-clause-first : goal.returns-clause-first
returns-clause-first c = λ some.
    subst (λ (m : MachineValue). c.advance.result ≡ turn_of (gives m [])) (sound_machine c.self.inside c.args.self.now c.self.view_is c.if-self.false) (c.advance.ensures.first some)

pub returns-clause-stands : goal.returns-clause-stands
returns-clause-stands c = λ code p sent some s.
    stands_turning code p sent c.args.self.now (live_of (record { machine = c.advance.new.self; body = c.self.inside.body; failed = c.self.inside.failed })) c.advance.result (returns-clause-turned c)
    (sound_body c.self.inside c.args.self.now c.self.view_is) some s
