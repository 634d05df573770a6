use Rattle.std.proofs.Common.{◌-◌, ◌≤◌, ◌<◌, ◌∙◌, [], arith, sym, ap, subst, length, true, refl}
use Rattle.anb_base.specs.declared.TheConstants.{ARRIVAL}
use Rattle.anb_machine.specs.Machines.{gives}
use Rattle.anb_honest.specs.declared.report.RehearseEnd.TheVariants.{LongMessage}
use Rattle.anb_honest.specs.Acting.{Stops}
use Rattle.anb_honest.proofs.Staging.{due_within, there, tells_now, room_due}
use Rattle.anb_honest.proofs.Turning.{tells, told_too_long, is_stopped}
use Rattle.anb_honest.proofs.stage.Stage.tell.Goals as goal

pub tell-requires-clause-tells : goal.tell-requires-clause-tells
tell-requires-clause-tells c =
    let k = c.requires.turn in tells_now k.cast k.course c.args.self.now k.stands c.args.role c.index_mut-player.result.now c.requires.role c.index_mut-player.ensures.value c.args.action k.due

pub tell-requires-clause-room : goal.tell-requires-clause-room
tell-requires-clause-room c =
    let k = c.requires.turn in room_due k.cast k.course c.args.self.now k.stands c.args.role c.index_mut-player.result.now c.requires.role c.index_mut-player.ensures.value c.args.action true k.due

pub overflow_sub-action : goal.overflow_sub-action
overflow_sub-action c = let k = c.requires.turn in (due_within k.cast k.course c.args.self.now k.stands c.args.role c.args.action true c.requires.role k.due).0

pub index_mut-requires : goal.index_mut-requires
index_mut-requires c =
    let k = c.requires.turn in
    let w = due_within k.cast k.course c.args.self.now k.stands c.args.role c.args.action true c.requires.role k.due in
    omega (arith, w.0, w.1, c.args.self.now.told.ok.0)

pub returns-then-len : goal.returns-then-len
returns-then-len c = λ k s st due others.
    let pl = c.index_mut-player.result.now in
    let here = there k s c.args.self.now st c.args.role pl c.requires.role c.index_mut-player.ensures.value in
    let same = ap length c.as_slice-len.ensures in
    let long : ARRIVAL < length c.in-Ok.message = omega (arith, same, c.if-len.true) in
    told_too_long k s c.args.self.now st c.args.role pl here c.in-Ok.message (gives c.tell.new.self.machine []) (c.in-Ok.ensures.told []) c.args.action c.args.self.now long others
    ∙ ap (λ n. LongMessage c.args.action n) (sym same)

pub returns-else-len : goal.returns-else-len
returns-else-len c = λ k s st due.
    let pl = c.index_mut-player.result.now in
    let here = there k s c.args.self.now st c.args.role pl c.requires.role c.index_mut-player.ensures.value in
    let w = due_within k s c.args.self.now st c.args.role c.args.action true c.requires.role due in
    let same = ap length c.as_slice-len.ensures in
    let short : length c.in-Ok.message ≤ ARRIVAL = omega (arith, same, c.if-len.false) in
    tells k s c.args.self.now st c.args.role pl here c.args.action (c.args.action - 1) c.in-Ok.message c.tell.new.self _ (omega (arith, w.0)) due c.in-Ok.ensures.told c.in-Ok.ensures.parts c.in-Ok.ensures.done
    short (omega (arith, w.0, w.1)) refl refl refl refl

pub returns-in-Err-Stuck : goal.returns-in-Err-Stuck
returns-in-Err-Stuck c = λ k s st due.
    let pl = c.index_mut-player.result.now in
    let here = there k s c.args.self.now st c.args.role pl c.requires.role c.index_mut-player.ensures.value in
    is_stopped k s c.args.self.now st c.args.role pl here c.args.action true c.in-Err-Stuck.halt c.args.self.now (subst (Stops (gives c.index_mut-player.result.now.machine)) c.in-Err-Stuck.field-0-is c.in-Err-Stuck.ensures.stops)
