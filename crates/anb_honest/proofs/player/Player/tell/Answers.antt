use Rattle.anb_honest.proofs.Acting.{tells_not}
use Rattle.anb_honest.proofs.player.Player.tell.Goals as goal

pub unreachable-requires : goal.unreachable-requires
unreachable-requires c = tells_not c.args.self.now.machine c.advance.new.self c.advance.result c.advance.ensures.turned c.requires.tells c.in-Wants.is
