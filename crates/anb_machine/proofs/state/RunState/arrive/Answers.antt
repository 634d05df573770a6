use Rattle.std.proofs.Common.{◌≡◌, ◌∙◌, length, vec_len, arith, inr}
use Rattle.anb_code.specs.declared.instr.Instr.TheVariants.{Recv}
use Rattle.anb_machine.proofs.Gone.{lean_after, receive_is}
use Rattle.anb_machine.proofs.state.RunState.arrive.Goals as goal

pub returns-clause-lean : goal.returns-clause-lean
returns-clause-lean c =
    let s = c.args.self.now in
    let e = c.receive.ensures in
    let d = c.drop_unread.ensures in
    let long : vec_len s.registers ≡ length s.registers.items = omega (arith, s.registers.ok) in
    lean_after s c.receive.new.self c.drop_unread.new.self Recv (receive_is s.algebra.formats s.code.now.instrs s.next c.requires.receives) c.requires.lean e.same d.same (inr e.moved) (rw (c.len-from.ensures, long) at d.thinned)

pub returns-clause-comes : goal.returns-clause-comes
returns-clause-comes c = λ arrivals. c.receive.ensures.comes arrivals ∙ c.drop_unread.ensures.comes arrivals
