use Rattle.anb_park.proofs.Standing.{on_turning}
use Rattle.anb_park.proofs.playing.LivePlayable.advance.Goals as goal

pub returns-clause-followed : goal.returns-clause-followed
returns-clause-followed c = λ some. on_turning c.args.self.now c.advance.new.self c.advance.result (λ code p sent s. c.advance.ensures.stands code p sent some s)
