use Rattle.anb_park.proofs.Standing.{on_receiving}
use Rattle.anb_park.proofs.playing.LivePlayable.arrive.Goals as goal

pub returns-clause-followed : goal.returns-clause-followed
returns-clause-followed c = on_receiving c.args.self.now c.arrive.new.self c.args.bytes c.arrive.result c.arrive.ensures.stands
