use Rattle.std.proofs.Common.{sym, ◌∙◌, arith}
use Rattle.anb_protocol.specs.Checks.{overlaps}
use Rattle.anb_protocol.proofs.FirstLemmas.{first_here, first_next}
use Rattle.anb_resolve.proofs.shapes.overlap.Goals as goal

pub loop-i-preserved : goal.loop-i-preserved
loop-i-preserved c = first_next overlaps c.args.formats.now c.loop-i.i c.index-formats-i.result _ (omega arith) c.index-formats-i.is (sym c.in_ok-overlap.ensures ∙ c.in-None.is) c.loop-i.invariant

pub returns-in-Some : goal.returns-in-Some
returns-in-Some c = first_here overlaps c.args.formats.now c.loop-i.i c.index-formats-i.result _ (omega arith) c.index-formats-i.is c.in-Some.no (sym c.in_ok-overlap.ensures ∙ c.in-Some.is) c.loop-i.invariant
