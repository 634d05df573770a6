use Rattle.std.proofs.Common.{◌≡◌, ◌-◌, ◌∙◌, arith, sym, ap, subst, length, true, false, refl}
use Rattle.std.specs.Prelude.{is_some}
use Rattle.std.proofs.lemmas.Option.{slice_get_read}
use Rattle.anb_machine.specs.Machines.{gives}
use Rattle.anb_honest.specs.Inside.{IsShort}
use Rattle.anb_honest.specs.Acting.{Stops}
use Rattle.anb_honest.proofs.Staging.{due_within, there, hears_now, room_due, message_there, message_short}
use Rattle.anb_honest.proofs.Turning.{hears, is_stopped}
use Rattle.anb_honest.proofs.stage.Stage.hear.Goals as goal

pub overflow_sub-action : goal.overflow_sub-action
overflow_sub-action c = let k = c.requires.turn in (due_within k.cast k.course c.args.self.now k.stands c.args.role c.args.action false c.requires.role k.due).0

pub index-requires : goal.index-requires
index-requires c =
    let k = c.requires.turn in
    let w = due_within k.cast k.course c.args.self.now k.stands c.args.role c.args.action false c.requires.role k.due in
    omega (arith, w.0, w.1, c.args.self.now.told.ok.0)

pub unreachable-requires : goal.unreachable-requires
unreachable-requires c =
    let k = c.requires.turn in
    let told = c.args.self.now.told.items in
    let slot = c.index.result.now in
    let w = due_within k.cast k.course c.args.self.now k.stands c.args.role c.args.action false c.requires.role k.due in
    let at = slice_get_read told (length told) (c.args.action - 1) slot refl (omega (arith, w.0, w.1)) c.index.ensures in
    let h = message_there k.cast k.course c.args.self.now k.stands c.args.role c.args.action (c.args.action - 1) slot (omega (arith, w.0)) at k.due in
    let e : false ≡ true = sym (ap is_some c.in_default.is) ∙ h.0 in
    cc

pub hear-requires-clause-hears : goal.hear-requires-clause-hears
hear-requires-clause-hears c =
    let k = c.requires.turn in hears_now k.cast k.course c.args.self.now k.stands c.args.role c.index_mut-player.result.now c.requires.role c.index_mut-player.ensures.value c.args.action k.due

pub hear-requires-clause-short : goal.hear-requires-clause-short
hear-requires-clause-short c =
    let k = c.requires.turn in
    let told = c.args.self.now.told.items in
    let slot = c.index.result.now in
    let w = due_within k.cast k.course c.args.self.now k.stands c.args.role c.args.action false c.requires.role k.due in
    let at = slice_get_read told (length told) (c.args.action - 1) slot refl (omega (arith, w.0, w.1)) c.index.ensures in
    subst IsShort c.in-Some.is (message_short k.cast k.course c.args.self.now k.stands (c.args.action - 1) slot at)

pub hear-requires-clause-room : goal.hear-requires-clause-room
hear-requires-clause-room c =
    let k = c.requires.turn in room_due k.cast k.course c.args.self.now k.stands c.args.role c.index_mut-player.result.now c.requires.role c.index_mut-player.ensures.value c.args.action false k.due

pub returns-in-Ok : goal.returns-in-Ok
returns-in-Ok c = λ k s st due.
    let told = c.args.self.now.told.items in
    let slot = c.index.result.now in
    let w = due_within k s c.args.self.now st c.args.role c.args.action false c.requires.role due in
    let at = slice_get_read told (length told) (c.args.action - 1) slot refl (omega (arith, w.0, w.1)) c.index.ensures in
    let h = message_there k s c.args.self.now st c.args.role c.args.action (c.args.action - 1) slot (omega (arith, w.0)) at due in
    let pl = c.index_mut-player.result.now in
    let here = there k s c.args.self.now st c.args.role pl c.requires.role c.index_mut-player.ensures.value in
    hears k s c.args.self.now st c.args.role pl here c.args.action c.in-Some.message c.hear.new.self _ due (sym h.1 ∙ c.in-Some.is) c.in-Ok.ensures.waited.0 c.in-Ok.ensures.waited.1 c.in-Ok.ensures.heard
    c.in-Ok.ensures.parts c.in-Ok.ensures.done refl refl refl refl

pub returns-in-Err-Stuck : goal.returns-in-Err-Stuck
returns-in-Err-Stuck c = λ k s st due.
    let pl = c.index_mut-player.result.now in
    let here = there k s c.args.self.now st c.args.role pl c.requires.role c.index_mut-player.ensures.value in
    is_stopped k s c.args.self.now st c.args.role pl here c.args.action false c.in-Err-Stuck.halt c.args.self.now (subst (Stops (gives c.index_mut-player.result.now.machine)) c.in-Err-Stuck.field-0-is c.in-Err-Stuck.ensures.stops)
