use Rattle.std.proofs.Common.{[], ◌∷◌, true, ◌&&◌}
use Rattle.anb_term.specs.Tree.{leaf, tree_eqb}
use Rattle.anb_plays.specs.Plays.{ends, done}
use Rattle.anb_probe.specs.Examples.{SecondIsImplied}
use Rattle.anb_probe.proofs.Dropping.{over_went, goes, not_waiting}
use Rattle.anb_probe.proofs.examples.second_is_implied.Goals as goal

worked : SecondIsImplied
worked [] h = not_waiting 1 [] h
worked (x ∷ rest) h =
    let same = tree_eqb (leaf 0) x && true in
    let went = over_went same (ends done rest) 1 3 rest h in
    goes same _ 1 3 rest went.0 (goes same (ends done rest) 1 4 rest went.0 went.1)

pub returns : goal.returns
returns c = worked
