use Rattle.std.proofs.Common.{ap, ◌∙◌}
use Rattle.std.specs.Prelude.{not}
use Rattle.anb_term.specs.View.{tree_of}
use Rattle.anb_report.proofs.Numbered.{other_absent, other_there}
use Rattle.anb_report.proofs.others.is_other.Goals as goal

pub returns-in-Some : goal.returns-in-Some
returns-in-Some c some m =
    let found = rw c.in-Some.is at c.in_ok-id.ensures in
    ap not c.is_marked.ensures ∙ other_there c.args.pool.now some c.args.marks.now c.in-Some.id.0 (tree_of c.args.term.now) m found

pub returns-in-None : goal.returns-in-None
returns-in-None c some m =
    let never = rw c.in-None.is at c.in_ok-id.ensures in
    other_absent c.args.pool.now some c.args.marks.now (tree_of c.args.term.now) m never
