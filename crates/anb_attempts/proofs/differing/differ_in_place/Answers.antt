use Rattle.anb_term.specs.View.{tree_of}
use Rattle.anb_attempts.proofs.Tests.{is_told}
use Rattle.anb_attempts.proofs.differing.differ_in_place.Goals as goal

pub returns : goal.returns
returns c = is_told c.args.spare (tree_of c.args.wrong.now) (tree_of c.args.one.now) (tree_of c.args.other.now) c.differ.result c.differ.ensures
