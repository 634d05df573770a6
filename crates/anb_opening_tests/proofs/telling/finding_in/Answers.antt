-- Each that is listed is an opening.
use Rattle.std.proofs.Common.{◌<◌, length, sym, subst, arith}
use Rattle.anb_openings.specs.Openings.{HasOpening}
use Rattle.anb_opening_tests.proofs.telling.finding_in.Goals as goal

pub opening_finding-requires-clause-opening : goal.opening_finding-requires-clause-opening
opening_finding-requires-clause-opening g c =
    subst (HasOpening c.in_ok-code.code) (sym c.index.ensures) (c.in_ok-list.ensures.each c.args.number c.index.result.now (omega arith))
