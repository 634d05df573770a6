use Rattle.std.proofs.Common.{◌≡◌, ◌<◌, length, false, None, sym, ap, ◌∙◌, subst, arith}
use Rattle.anb_lemmas.proofs.Lists.{item_at}
use Rattle.anb_code.specs.CodeValue.{CodeValue}
use Rattle.anb_code.specs.Taking.{take_texts}
use Rattle.anb_choice.specs.Views.{branched_of}
use Rattle.anb_session.proofs.Faults.{ends_later, wants_memory}
use Rattle.anb_session.proofs.Turning.{closes_wanting}
use Rattle.anb_branch.specs.declared.signs.Sign.{Sign}
use Rattle.anb_branch.specs.Taken.{begins_arm, place_begun, run_taken}
use Rattle.anb_branch.proofs.Members.{chosen_within}
use Rattle.anb_branch.proofs.Seeing.{receives_so}
use Rattle.anb_branch.proofs.Choosing.{ends_there, goes_on_here, waits_there, goes_on_there}
use Rattle.anb_branch.proofs.playing.play_seeing.Goals as goal

abbrev no_sign : Sign
no_sign = record { free = false; receives = 0; format = None }

pub returns-in_default-clause-closes : goal.returns-in_default-clause-closes
returns-in_default-clause-closes g c = λ role d.
    closes_wanting (run_taken (branched_of c.args.b.now) role None c.args.init.now c.args.seed.now c.args.codes.now) (g.W.Wire.state c.args.wire.now)

pub bounds-codes-place : goal.bounds-codes-place
bounds-codes-place g c =
    let b = branched_of c.args.b.now in
    let (role, d) = c.requires.decides in
    let x = c.as_slice.result.now in
    omega (arith, c.place_begun-place.ensures role d.signs_are, chosen_within (begins_arm b.stem role x) b.arms c.requires.some, c.requires.codes)

pub offset_bounds-codes-place : goal.offset_bounds-codes-place
offset_bounds-codes-place g c =
    let b = branched_of c.args.b.now in
    let (role, d) = c.requires.decides in
    let x = c.as_slice.result.now in
    omega (arith, c.place_begun-place.ensures role d.signs_are, chosen_within (begins_arm b.stem role x) b.arms c.requires.some, c.requires.few)

pub play_again-requires-clause-count : goal.play_again-requires-clause-count
play_again-requires-clause-count g c =
    let b = branched_of c.args.b.now in
    let (role, d) = c.requires.decides in
    let x = c.as_slice.result.now in
    let code = c.index-codes-place.result in
    let place = c.place_begun-place.result in
    let within : place < length c.args.codes.now = omega (arith, c.place_begun-place.ensures role d.signs_are, chosen_within (begins_arm b.stem role x) b.arms c.requires.some, c.requires.codes) in
    let P : CodeValue → Type 0 = λ k. length c.args.init.now ≡ length (take_texts k.instrs) in
    subst P (sym c.index-codes-place.is) (c.requires.count place code within)

pub play_again-requires-clause-waits : goal.play_again-requires-clause-waits
play_again-requires-clause-waits g c =
    let b = branched_of c.args.b.now in
    let (role, d) = c.requires.decides in
    let init = c.args.init.now in
    let seed = c.args.seed.now in
    let codes = c.args.codes.now in
    let s = g.W.Wire.state c.args.wire.now in
    let t = g.W.Wire.state c.play_to_choice.new.wire in
    let first = c.index-codes-0.result in
    let other = c.index-codes-place.result in
    let place = c.place_begun-place.result in
    let choice = c.in-Ok-play_to_choice.choice in
    let within : place < length codes = omega (arith, c.place_begun-place.ensures role d.signs_are, chosen_within (begins_arm b.stem role c.as_slice.result.now) b.arms c.requires.some, c.requires.codes) in
    let at_first = item_at codes 0 first (omega (arith, c.requires.some, c.requires.codes)) c.index-codes-0.is in
    let at_other = item_at codes place other within c.index-codes-place.is in
    waits_there b role init seed codes d.free _ first c.in-Ok.machine c.play_to_choice.new.played s t t choice.past.items choice.arrival (receives_so b role c.args.signs.now no_sign d.signs_are c.requires.some)
    (d.each 0 first at_first) c.in-Ok.ensures.run c.in-Ok-play_to_choice.ensures.chooses place other (d.each place other at_other)

pub returns-then-place-eq0-clause-closes : goal.returns-then-place-eq0-clause-closes
returns-then-place-eq0-clause-closes g c = λ role d.
    let b = branched_of c.args.b.now in
    let init = c.args.init.now in
    let seed = c.args.seed.now in
    let codes = c.args.codes.now in
    let s = g.W.Wire.state c.args.wire.now in
    let t = g.W.Wire.state c.play_to_choice.new.wire in
    let u = g.W.Wire.state c.play_on.new.wire in
    let first = c.index-codes-0.result in
    let choice = c.in-Ok-play_to_choice.choice in
    let at_first = item_at codes 0 first (omega (arith, c.requires.some, c.requires.codes)) c.index-codes-0.is in
    let begun : c.place_begun-place.result ≡ place_begun b role choice.arrival = c.place_begun-place.ensures role d.signs_are ∙ ap (place_begun b role) c.as_slice.ensures in
    goes_on_here b role init seed codes d.free _ first c.in-Ok.machine c.play_to_choice.new.played s t u choice.past.items choice.arrival (receives_so b role c.args.signs.now no_sign d.signs_are c.requires.some)
    (d.each 0 first at_first) c.in-Ok.ensures.run c.in-Ok-play_to_choice.ensures.chooses c.play_on.result (omega (arith, begun, c.if-place-eq0.true)) at_first c.play_on.ensures.closes

pub returns-else-place-eq0-clause-closes : goal.returns-else-place-eq0-clause-closes
returns-else-place-eq0-clause-closes g c = λ role d.
    let b = branched_of c.args.b.now in
    let init = c.args.init.now in
    let seed = c.args.seed.now in
    let codes = c.args.codes.now in
    let s = g.W.Wire.state c.args.wire.now in
    let t = g.W.Wire.state c.play_to_choice.new.wire in
    let u = g.W.Wire.state c.play_again.new.wire in
    let first = c.index-codes-0.result in
    let other = c.index-codes-place.result in
    let place = c.place_begun-place.result in
    let choice = c.in-Ok-play_to_choice.choice in
    let within : place < length codes = omega (arith, c.place_begun-place.ensures role d.signs_are, chosen_within (begins_arm b.stem role c.as_slice.result.now) b.arms c.requires.some, c.requires.codes) in
    let at_first = item_at codes 0 first (omega (arith, c.requires.some, c.requires.codes)) c.index-codes-0.is in
    let at_other = item_at codes place other within c.index-codes-place.is in
    let begun : place ≡ place_begun b role choice.arrival = c.place_begun-place.ensures role d.signs_are ∙ ap (place_begun b role) c.as_slice.ensures in
    goes_on_there b role init seed codes d.free _ first c.in-Ok.machine c.play_to_choice.new.played s t u choice.past.items choice.arrival (receives_so b role c.args.signs.now no_sign d.signs_are c.requires.some)
    (d.each 0 first at_first) c.in-Ok.ensures.run c.in-Ok-play_to_choice.ensures.chooses c.play_again.result place other begun at_other (d.each place other at_other) c.play_again.ensures.closes

pub returns-in-Err-clause-closes : goal.returns-in-Err-clause-closes
returns-in-Err-clause-closes g c = λ role d.
    let b = branched_of c.args.b.now in
    let codes = c.args.codes.now in
    let first = c.index-codes-0.result in
    let at_first = item_at codes 0 first (omega (arith, c.requires.some, c.requires.codes)) c.index-codes-0.is in
    ends_there b role c.args.init.now c.args.seed.now codes d.free _ first c.in-Ok.machine c.play_to_choice.new.played (g.W.Wire.state c.args.wire.now) (g.W.Wire.state c.play_to_choice.new.wire) c.in-Err.end
    (receives_so b role c.args.signs.now no_sign d.signs_are c.requires.some) (d.each 0 first at_first) c.in-Ok.ensures.run c.in-Err.ensures.ends

pub returns-in_default-clause-faults : goal.returns-in_default-clause-faults
returns-in_default-clause-faults g c = wants_memory (g.W.Wire.state c.args.wire.now)

pub returns-then-place-eq0-clause-faults : goal.returns-then-place-eq0-clause-faults
returns-then-place-eq0-clause-faults g c =
    ends_later (g.W.Wire.state c.args.wire.now) (g.W.Wire.state c.play_to_choice.new.wire) (g.W.Wire.state c.play_on.new.wire) c.play_on.result
    c.in-Ok-play_to_choice.ensures.quiet c.play_on.ensures.faults

pub returns-else-place-eq0-clause-faults : goal.returns-else-place-eq0-clause-faults
returns-else-place-eq0-clause-faults g c =
    ends_later (g.W.Wire.state c.args.wire.now) (g.W.Wire.state c.play_to_choice.new.wire) (g.W.Wire.state c.play_again.new.wire) c.play_again.result
    c.in-Ok-play_to_choice.ensures.quiet c.play_again.ensures.faults

pub play_on-requires-clause-next : goal.play_on-requires-clause-next
play_on-requires-clause-next g c = (c.in-Ok-play_to_choice.ensures.chooses.event, c.in-Ok-play_to_choice.ensures.chooses.next)
