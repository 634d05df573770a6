-- A variable that stands once may get any term, and where any term may stand no other does.
use Rattle.anb_accept.proofs.Freeing.{free_is_unchecked}
use Rattle.anb_accept.proofs.laws.free_is_unchecked.Goals as goal

pub returns : goal.returns
returns c = free_is_unchecked
