use Rattle.std.proofs.Common.{length, true, arith}
use Rattle.anb_report.specs.Remarks.{used_atoms}
use Rattle.anb_report.proofs.Marking.{mark_is}
use Rattle.anb_report.proofs.names.is_marked.Goals as goal

pub returns-in-Some : goal.returns-in-Some
returns-in-Some c =
    let p = c.args.protocol.now in
    mark_is c.args.used.now (length p.atoms) c.args.i (used_atoms p) c.in-Some.mark.now c.requires.used c.requires.within (c.in-Some.ensures.lookup.3.1 true)

pub returns-in-None : goal.returns-in-None
returns-in-None c =
    let p = c.args.protocol.now in
    mark_is c.args.used.now (length p.atoms) c.args.i (used_atoms p) true c.requires.used c.requires.within (c.in-None.ensures.lookup.4 (omega arith) true)
