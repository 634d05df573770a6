use Rattle.std.proofs.Common.{◌+◌, refl, arith}
use Rattle.anb_code.specs.declared.instr.Instr.TheVariants.{Recv}
use Rattle.anb_machine.specs.declared.state.RunState.{RunState}
use Rattle.anb_machine.proofs.Gone.{moves_one, receive_is}
use Rattle.anb_machine.proofs.Steps.{at_receive, received, received_kept, room_for_one, taken}
use Rattle.anb_machine.proofs.state.RunState.receive.Goals as goal

pub returns-clause-kept : goal.returns-clause-kept
returns-clause-kept c =
    let s = c.args.self.now in
    let next = at_receive s c.requires.receives in
    let ok = c.push.ensures.succeeds (let room = room_for_one s c.requires.kept next in omega (arith, room, s.registers.ok)) in
    received_kept s (record s { next = s.next + 1; event = s.event + 1; registers = c.push.new.self }) c.args.bytes c.requires.kept next
    (record { same = record { algebra = refl; code = refl; seed = refl; session = refl }; next = refl; event = refl; drawn = refl; table = taken _ _ _ _ ok c.push.ensures.items; room = c.push.ensures.capacity })

pub returns-clause-comes : goal.returns-clause-comes
returns-clause-comes c =
    let s = c.args.self.now in
    let next = at_receive s c.requires.receives in
    let ok = c.push.ensures.succeeds (let room = room_for_one s c.requires.kept next in omega (arith, room, s.registers.ok)) in
    received s (record s { next = s.next + 1; event = s.event + 1; registers = c.push.new.self }) c.args.bytes next
    (record { same = record { algebra = refl; code = refl; seed = refl; session = refl }; next = refl; event = refl; drawn = refl; table = taken _ _ _ _ ok c.push.ensures.items; room = c.push.ensures.capacity })

pub returns-clause-moved : goal.returns-clause-moved
returns-clause-moved c =
    let s = c.args.self.now in
    let next = at_receive s c.requires.receives in
    let ok = c.push.ensures.succeeds (let room = room_for_one s c.requires.kept next in omega (arith, room, s.registers.ok)) in
    let t : RunState = record s { next = s.next + 1; event = s.event + 1; registers = c.push.new.self } in
    moves_one s t Recv (receive_is s.algebra.formats s.code.now.instrs s.next c.requires.receives) refl c.args.bytes (taken _ _ _ _ ok c.push.ensures.items) c.requires.short (λ widths. refl)
