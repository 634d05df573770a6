-- Something is left.
use Rattle.std.proofs.Common.{map, arith}
use Rattle.anb_term.specs.View.{tree_of}
use Rattle.anb_accept.proofs.Conversing.{size_is}
use Rattle.anb_accept.proofs.conversations.are_few.Goals as goal

pub returns-in-Some : goal.returns-in-Some
returns-in-Some c = λ _. omega (arith, c.in-Some.ensures, size_is (map tree_of c.args.terms.now))
