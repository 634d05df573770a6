use Rattle.std.proofs.Common.{length, sym, subst}
use Rattle.anb_code.specs.declared.instr.Instr.{Instr}
use Rattle.anb_code.specs.Meaning.{act_of}
use Rattle.anb_machine.specs.Standing.{IsWorkReady, IsWorkDone}
use Rattle.anb_machine.proofs.Works.{compared}
use Rattle.anb_machine.proofs.work.work.Goals as goal

pub returns-in-Equal-clause-done : goal.returns-in-Equal-clause-done
returns-in-Equal-clause-done g c =
    let m = g.A.Algebra.meaning c.args.algebra.now in
    let table = c.args.registers.now.items in
    let P : Instr → Type 0 = λ i. IsWorkDone m table (act_of c.args.formats.now i) c.same.result table in
    let Q : Instr → Type 0 = λ i. IsWorkReady m.has (length table) (act_of c.args.formats.now i) in
    let ready = subst Q c.in-Equal.is c.requires.ready in
    subst P (sym c.in-Equal.is) (compared m (g.met.A.Algebra.lawful c.args.algebra.now) table c.in-Equal.a c.in-Equal.b c.same.result ready.0 ready.1 (rw (← c.deref.ensures.value) c.same.ensures))
