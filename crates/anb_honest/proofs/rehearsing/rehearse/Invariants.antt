use Rattle.std.proofs.Common.{◌≡◌, ◌+◌, length, drop}
use Rattle.anb_honest.specs.Joint.{Course, cast, outset, walk}
use Rattle.anb_honest.specs.Inside.{Stands}
use Rattle.anb_honest.proofs.rehearsing.rehearse.Given as goal

abbrev pub invariant-loop-role : goal.invariant-loop-role
invariant-loop-role l =
    let c = cast l.p l.codes l.atoms l.seed in record {
      course : Course;
      stands : Stands c course l.stage;
      walked : walk c course (drop l.role-index l.turns) ≡ walk c outset l.turns;
      counted : length course.moves + course.passed ≡ l.role-index;
    }
