use Rattle.std.proofs.Common.{◌<◌, false, None, sym, ◌∙◌, arith, length}
use Rattle.anb_lemmas.proofs.Lists.{item_at}
use Rattle.anb_branch.specs.declared.signs.Sign.{Sign}
use Rattle.anb_branch.specs.Taken.{begins_arm}
use Rattle.anb_branch.proofs.Seeing.{begins_so, place_found, place_next}
use Rattle.anb_branch.proofs.signs.place_begun.Goals as goal

pub returns-then-has_head : goal.returns-then-has_head
returns-then-has_head c = λ role are.
    let i = c.loop-i.i in
    let arms = c.args.b.now.arms.items in
    let stem = c.args.b.now.stem in
    let arrival = c.args.arrival.now in
    let arm = c.arm-item.result in
    let at_item = rw c.deref-arm-items.ensures.value at c.arm-item.is in
    let within : i < length arms = omega (arith, c.loop-i-test.true, c.loop-i.auto.i-end) in
    let d : Sign = record { free = false; receives = 0; format = None } in
    let t = begins_arm stem role arrival in
    let is = begins_so stem role arrival arms c.args.signs.now i arm d c.has_head.result c.formats.result.now c.formats.ensures are (item_at arms i arm within at_item) (omega (arith, within, c.requires)) c.has_head.ensures in
    place_found t arms i arm within at_item (sym is ∙ c.if-has_head.true) (c.loop-i.invariant role are)

pub loop-i-preserved : goal.loop-i-preserved
loop-i-preserved c = λ role are.
    let i = c.loop-i.i in
    let arms = c.args.b.now.arms.items in
    let stem = c.args.b.now.stem in
    let arrival = c.args.arrival.now in
    let arm = c.arm-item.result in
    let at_item = rw c.deref-arm-items.ensures.value at c.arm-item.is in
    let within : i < length arms = omega (arith, c.loop-i-test.true, c.loop-i.auto.i-end) in
    let d : Sign = record { free = false; receives = 0; format = None } in
    let t = begins_arm stem role arrival in
    let is = begins_so stem role arrival arms c.args.signs.now i arm d c.has_head.result c.formats.result.now c.formats.ensures are (item_at arms i arm within at_item) (omega (arith, within, c.requires)) c.has_head.ensures in
    place_next t arms i arm within at_item (sym is ∙ c.if-has_head.false) (c.loop-i.invariant role are)
