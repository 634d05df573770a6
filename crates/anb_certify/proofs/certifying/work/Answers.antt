use Rattle.std.proofs.Common.{◌∷◌}
use Rattle.anb_plays.specs.Codes.{works}
use Rattle.anb_algebra.specs.ByteMeaning.{has_operator}
use Rattle.anb_certify.specs.Numbered.{value_of}
use Rattle.anb_certify.specs.Works.{work_of}
use Rattle.anb_certify.proofs.Walking.{work_ready, few_now, untrue, done_work}
use Rattle.anb_certify.proofs.certifying.work.Goals as goal

pub work-requires-clause-ready : goal.work-requires-clause-ready
work-requires-clause-ready c =
    let s = c.requires.stands in
    (has_operator s.0.formats, work_ready s.0 s.1 s.2 s.3 s.4 c.args.at (value_of c.args.table.now) (work_of c.args.job) s.5)

pub returns-then-branch-clause-stands : goal.returns-then-branch-clause-stands
returns-then-branch-clause-stands c p role code acts es s =
    done_work p role code acts es c.args.at (value_of c.args.table.now) (value_of c.work.new.self) (work_of c.args.job) (c.in_ok-work.ensures.works c.if-branch.true) s

pub returns-clause-refused : goal.returns-clause-refused
returns-clause-refused c p role code acts es s =
    untrue p role code acts es c.args.at (value_of c.args.table.now) (work_of c.args.job) s (c.in_ok-work.ensures.untrue c.if-branch.false)

pub work-requires-clause-few : goal.work-requires-clause-few
work-requires-clause-few c =
    let s = c.requires.stands in
    few_now s.0 s.1 s.2 (works (work_of c.args.job) ∷ s.3) s.4 c.args.at (value_of c.args.table.now) s.5
