-- One place more.
use Rattle.std.proofs.Common.{◌<◌, length, Some, ap, ◌∙◌, arith}
use Rattle.anb_term.proofs.Lists.{slice_get-at}
use Rattle.anb_notes.proofs.Firsts.{new, past, there}
use Rattle.anb_notes.proofs.tables.put_first.Goals as goal

pub returns-then-x-len : goal.returns-then-x-len
returns-then-x-len c many all are = past many all c.args.place.now c.args.table.now.items are (omega (arith, are.long, c.if-x-len.true, c.len.ensures, c.args.table.now.ok.0))

pub returns-in-Some : goal.returns-in-Some
returns-in-Some c many all are =
    let table = c.args.table.now.items in
    let x = c.args.place.now.name in
    let within : x < length table = omega (arith, c.if-x-len.false, c.len.ensures, c.args.table.now.ok.0) in
    there many all c.args.place.now table are c.in-Some.field-0 (omega (arith, within, are.long)) (slice_get-at table x c.index.result.now within c.index.ensures ∙ ap Some c.in-Some.is)

pub returns-in-None : goal.returns-in-None
returns-in-None c many all are =
    let table = c.args.table.now.items in
    let x = c.args.place.now.name in
    let within : x < length table = omega (arith, c.if-x-len.false, c.len.ensures, c.args.table.now.ok.0) in
    new many all c.args.place.now table are (omega (arith, within, are.long)) (slice_get-at table x c.index.result.now within c.index.ensures ∙ ap Some c.in-None.is)
