use Rattle.anb_notes.proofs.Waiting.{counted_none}
use Rattle.anb_notes.proofs.idle.is_uncounted.Goals as goal

pub returns : goal.returns
returns c patterns are = counted_none patterns c.args.counts.now c.args.x are c.requires
