use Rattle.std.proofs.Common.{sym}
use Rattle.anb_seal.specs.Streams.{draw_of}
use Rattle.anb_algebra.specs.ByteMeaning.{byte_meaning}
use Rattle.anb_machine.specs.Keeping.{AreDropped, instrs_left, thinned_by}
use Rattle.anb_machine.proofs.Lean.{dropped_same, over_dropped}
use Rattle.anb_machine.proofs.Unread.{unread_same}
use Rattle.anb_machine.proofs.state.RunState.drop_unread.Goals as goal

pub returns-clause-comes : goal.returns-clause-comes
returns-clause-comes c =
    let s = c.args.self.now in
    let code = s.code.now in
    let new = c.drop_unread.new.registers.items in
    let dropped : AreDropped (instrs_left s) (thinned_by c.args.instr.now c.args.from) s.registers.items new =
    over_dropped code.formats code.instrs c.last_uses-uses.result.now s.next (thinned_by c.args.instr.now c.args.from) s.registers.items new c.last_uses-uses.ensures c.drop_unread.ensures.dropped in
    λ arrivals. unread_same (byte_meaning s.algebra.formats s.algebra.suite) (draw_of s.seed s.session) s.algebra.formats (instrs_left s) s.registers.items new s.event s.next s.drawn arrivals (sym dropped.count)
    (λ r is. sym (dropped_same (instrs_left s) (thinned_by c.args.instr.now c.args.from) s.registers.items new dropped r is))
