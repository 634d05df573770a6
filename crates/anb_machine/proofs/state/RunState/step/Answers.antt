use Rattle.std.proofs.Common.{◌≡◌, Some, length, vec_len, arith, rules}
use Rattle.std.specs.Prelude.{slice_get}
use Rattle.anb_term.proofs.Lists.{slice_get-at}
use Rattle.anb_machine.specs.Keeping.{thinned_by}
use Rattle.anb_machine.proofs.Gone.{lean_after, stepped_thinned}
use Rattle.anb_machine.proofs.Verified.{few_at}
use Rattle.anb_machine.proofs.state.RunState.step.Goals as goal

pub act-turn-requires-clause-few : goal.act-turn-requires-clause-few
act-turn-requires-clause-few c =
    let s = c.args.self.now in
    let x = c.in-Some.instr.now in
    let at : slice_get s.code.now.instrs s.next ≡ Some x = rw (← c.instrs.ensures.instrs) (slice_get-at c.instrs.result.now s.next x (search rules) (search rules)) in
    let v = c.instrs.ensures.verified in
    rw c.requires.kept.formats (few_at s.code.now.formats v.formats s.code.now.instrs v.instrs s.next x at)

pub returns-clause-lean : goal.returns-clause-lean
returns-clause-lean c =
    let s = c.args.self.now in
    let x = c.in-Some.instr.now in
    let at : slice_get s.code.now.instrs s.next ≡ Some x = rw (← c.instrs.ensures.instrs) (slice_get-at c.instrs.result.now s.next x (search rules) (search rules)) in
    let e = c.act-turn.ensures in
    let d = c.drop_unread.ensures in
    let long : vec_len s.registers ≡ length s.registers.items = omega (arith, s.registers.ok) in
    lean_after s c.act-turn.new.self c.drop_unread.new.self x at c.requires.lean e.same d.same e.gone (rw (c.len-from.ensures, long) at d.thinned)

pub returns-clause-stepped : goal.returns-clause-stepped
returns-clause-stepped c =
    let e = c.act-turn.ensures in
    let d = c.drop_unread.ensures in
    stepped_thinned c.args.self.now c.act-turn.new.self c.drop_unread.new.self (thinned_by c.in-Some.instr.now c.len-from.result) c.act-turn.result d.same d.thinned d.comes e.stepped
