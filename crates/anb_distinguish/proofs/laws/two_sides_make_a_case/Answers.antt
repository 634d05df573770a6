-- The solution with the spare name in it solves the rest, and not the check.
use Rattle.anb_distinguish.proofs.Making.{two_sides_make_a_case}
use Rattle.anb_distinguish.proofs.laws.two_sides_make_a_case.Goals as goal

pub returns : goal.returns
returns c = two_sides_make_a_case
