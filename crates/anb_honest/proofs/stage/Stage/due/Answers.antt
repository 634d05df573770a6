use Rattle.std.proofs.Common.{◌≡◌, ◌-◌, arith, sym, length, true, false, refl}
use Rattle.std.specs.Prelude.{is_some}
use Rattle.std.proofs.lemmas.Option.{slice_get_read}
use Rattle.anb_honest.proofs.Staging.{part_least, part_most, due_send, due_told, due_untold}
use Rattle.anb_honest.proofs.stage.Stage.due.Goals.{then-part, else-part}
use Rattle.anb_honest.proofs.stage.Stage.due.Goals as goal

pub overflow_sub-part : goal.overflow_sub-part
overflow_sub-part c =
    part_least c.requires.stage.0 c.requires.stage.1 c.args.self.now c.requires.stage.2 c.args.role c.index.result.now c.requires.role c.index.ensures c.in_ok-part.part (sym c.in_ok-part.ensures)

pub index-requires-else-part : goal.index-requires-else-part
index-requires-else-part c =
    let least = part_least c.requires.stage.0 c.requires.stage.1 c.args.self.now c.requires.stage.2 c.args.role c.index.result.now c.requires.role c.index.ensures c.in_ok-part.part (sym c.in_ok-part.ensures) in
    let most = part_most c.requires.stage.0 c.requires.stage.1 c.args.self.now c.requires.stage.2 c.args.role c.index.result.now c.requires.role c.index.ensures c.in_ok-part.part (sym c.in_ok-part.ensures) in
    omega (arith, least, most, c.args.self.now.told.ok.0)

pub returns-then-is_some : goal.returns-then-is_some
returns-then-is_some c = λ k s st.
    let stage = c.args.self.now in
    let pl = c.index.result.now in
    let part = c.in_ok-part.part in
    let next = sym c.in_ok-part.ensures in
    let least = part_least k s stage st c.args.role pl c.requires.role c.index.ensures part next in
    let most = part_most k s stage st c.args.role pl c.requires.role c.index.ensures part next in
    elim c.if-part.branch [
      | then-part w ↦ due_send k s stage st c.args.role pl c.requires.role c.index.ensures part next w.if-part.true
      | else-part w ↦
          (let slot = w.index-else-part.result.now in
          let f : is_some slot ≡ true = cc (w.is_some.ensures, w.value-is, c.if-is_some.true) in
          due_told k s stage st c.args.role pl c.requires.role c.index.ensures part next (part.action - 1) slot (omega (arith, least))
          (slice_get_read stage.told.items (length stage.told.items) (part.action - 1) slot refl (omega (arith, least, most)) w.index-else-part.ensures) w.if-part.false f)
    ]

pub returns-else-is_some : goal.returns-else-is_some
returns-else-is_some c = λ k s st.
    let stage = c.args.self.now in
    let pl = c.index.result.now in
    let part = c.in_ok-part.part in
    let next = sym c.in_ok-part.ensures in
    let least = part_least k s stage st c.args.role pl c.requires.role c.index.ensures part next in
    let most = part_most k s stage st c.args.role pl c.requires.role c.index.ensures part next in
    elim c.if-part.branch [
      | then-part w ↦ cc (w.if-part.true, w.value-is, c.if-is_some.false)
      | else-part w ↦
          (let slot = w.index-else-part.result.now in
          let f : is_some slot ≡ false = cc (w.is_some.ensures, w.value-is, c.if-is_some.false) in
          due_untold k s stage st c.args.role pl c.requires.role c.index.ensures part next (part.action - 1) slot (omega (arith, least))
          (slice_get_read stage.told.items (length stage.told.items) (part.action - 1) slot refl (omega (arith, least, most)) w.index-else-part.ensures) w.if-part.false f)
    ]
