use Rattle.std.proofs.Common.{subst, sym}
use Rattle.anb_close.specs.Spreading.{HavePlaces}
use Rattle.anb_close.proofs.Indexing.{settling_none}
use Rattle.anb_close.proofs.index.forget.Goals as goal

pub returns : goal.returns
returns c rs places = c.settle.ensures rs (settling_none rs c.args.pool.now c.clear.new.standings.items (subst (HavePlaces rs c.args.pool.now) (sym c.clear.ensures) places))
