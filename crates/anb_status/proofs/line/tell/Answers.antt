use Rattle.std.proofs.Common.{ℕ, List, subst, sym}
use Rattle.anb_status.specs.Lines.{Tells}
use Rattle.anb_status.proofs.Lines.{told, line_is}
use Rattle.anb_status.proofs.line.tell.Goals as goal

pub returns-clause-line : goal.returns-clause-line
returns-clause-line g c =
    let said = c.pieces.result in
    let line = line_is c.args.status.now said.0.now said.1.now said.2.now said.3.now said.4.now said.5.now said.6.now c.in_default.not-Done (sym c.pieces.ensures) in
    subst (λ (l : List ℕ). Tells l (g.E.Sink.written c.args.err.now) (g.E.Sink.written c.write_line.new.err) (g.E.Sink.faults c.args.err.now) (g.E.Sink.faults c.write_line.new.err)) line
    (told c.write_line.result _ _ _ _ _ c.write_line.ensures.put c.write_line.ensures.failed c.write_line.ensures.cause c.write_line.ensures.never_falls)
