use Rattle.std.proofs.Common.{◌≡◌, ◌<◌, length, false, None, sym, ap, ◌∙◌, subst, arith}
use Rattle.anb_lemmas.proofs.Lists.{item_at}
use Rattle.anb_code.specs.CodeValue.{CodeValue}
use Rattle.anb_code.specs.Taking.{take_texts}
use Rattle.anb_choice.specs.Views.{branched_of}
use Rattle.anb_session.proofs.Faults.{ends_later, wants_memory}
use Rattle.anb_session.proofs.Turning.{closes_wanting}
use Rattle.anb_branch.specs.declared.signs.Sign.{Sign}
use Rattle.anb_machine.specs.ByteRuns.{run_bytes}
use Rattle.anb_branch.specs.Taken.{begins_arm, place_begun, run_taken, stem_receives}
use Rattle.anb_branch.proofs.Recorded.{records_first, records_here, records_there, taken_before, taken_there}
use Rattle.anb_branch.proofs.Members.{chosen_within}
use Rattle.anb_branch.proofs.Seeing.{receives_so}
use Rattle.anb_branch.proofs.Choosing.{ends_there, goes_on_here, waits_there, goes_on_there}
use Rattle.anb_branch.proofs.recording.record_seeing.Goals as goal

abbrev no_sign : Sign
no_sign = record { free = false; receives = 0; format = None }

pub returns-in_default-clause-closes : goal.returns-in_default-clause-closes
returns-in_default-clause-closes g c = λ role d.
    rw c.nothing.ensures (closes_wanting (run_taken (branched_of c.args.b.now) role None c.args.init.now c.args.seed.now c.args.codes.now) (g.W.Wire.state c.args.wire.now))

pub bounds-codes-place : goal.bounds-codes-place
bounds-codes-place g c =
    let b = branched_of c.args.b.now in
    let (role, d) = c.requires.decides in
    let x = c.as_slice.result.now in
    omega (arith, c.place_begun-place.ensures role d.signs_are, chosen_within (begins_arm b.stem role x) b.arms c.requires.some, c.requires.codes)

pub offset_bounds-codes-place : goal.offset_bounds-codes-place
offset_bounds-codes-place g c =
    let b = branched_of c.args.b.now in
    let (role, d) = c.requires.decides in
    let x = c.as_slice.result.now in
    omega (arith, c.place_begun-place.ensures role d.signs_are, chosen_within (begins_arm b.stem role x) b.arms c.requires.some, c.requires.few)

pub record_again-requires-clause-count : goal.record_again-requires-clause-count
record_again-requires-clause-count g c =
    let b = branched_of c.args.b.now in
    let (role, d) = c.requires.decides in
    let x = c.as_slice.result.now in
    let code = c.index-codes-place.result in
    let place = c.place_begun-place.result in
    let within : place < length c.args.codes.now = omega (arith, c.place_begun-place.ensures role d.signs_are, chosen_within (begins_arm b.stem role x) b.arms c.requires.some, c.requires.codes) in
    let P : CodeValue → Type 0 = λ k. length c.args.init.now ≡ length (take_texts k.instrs) in
    subst P (sym c.index-codes-place.is) (c.requires.count place code within)

pub record_again-requires-clause-waits : goal.record_again-requires-clause-waits
record_again-requires-clause-waits g c =
    let b = branched_of c.args.b.now in
    let (role, d) = c.requires.decides in
    let init = c.args.init.now in
    let seed = c.args.seed.now in
    let codes = c.args.codes.now in
    let s = g.W.Wire.state c.args.wire.now in
    let t = g.W.Wire.state c.record_stem.new.wire in
    let first = c.index-codes-0.result in
    let other = c.index-codes-place.result in
    let place = c.place_begun-place.result in
    let choice = c.in-Ok-record_stem.choice in
    let within : place < length codes = omega (arith, c.place_begun-place.ensures role d.signs_are, chosen_within (begins_arm b.stem role c.as_slice.result.now) b.arms c.requires.some, c.requires.codes) in
    let at_first = item_at codes 0 first (omega (arith, c.requires.some, c.requires.codes)) c.index-codes-0.is in
    let at_other = item_at codes place other within c.index-codes-place.is in
    waits_there b role init seed codes d.free _ first c.in-Ok.machine c.record_stem.new.machine s t t choice.past.items choice.arrival (receives_so b role c.args.signs.now no_sign d.signs_are c.requires.some)
    (d.each 0 first at_first) c.in-Ok.ensures.run c.in-Ok-record_stem.ensures.chooses place other (d.each place other at_other)

pub returns-then-place-eq0-clause-closes : goal.returns-then-place-eq0-clause-closes
returns-then-place-eq0-clause-closes g c = λ role d.
    let b = branched_of c.args.b.now in
    let init = c.args.init.now in
    let seed = c.args.seed.now in
    let codes = c.args.codes.now in
    let s = g.W.Wire.state c.args.wire.now in
    let t = g.W.Wire.state c.record_stem.new.wire in
    let u = g.W.Wire.state c.record_on.new.wire in
    let first = c.index-codes-0.result in
    let choice = c.in-Ok-record_stem.choice in
    let at_first = item_at codes 0 first (omega (arith, c.requires.some, c.requires.codes)) c.index-codes-0.is in
    let begun : c.place_begun-place.result ≡ place_begun b role choice.arrival = c.place_begun-place.ensures role d.signs_are ∙ ap (place_begun b role) c.as_slice.ensures in
    goes_on_here b role init seed codes d.free _ first c.in-Ok.machine c.record_stem.new.machine s t u choice.past.items choice.arrival (receives_so b role c.args.signs.now no_sign d.signs_are c.requires.some)
    (d.each 0 first at_first) c.in-Ok.ensures.run c.in-Ok-record_stem.ensures.chooses c.record_on.result.end (omega (arith, begun, c.if-place-eq0.true)) at_first c.record_on.ensures.closes

pub returns-else-place-eq0-clause-closes : goal.returns-else-place-eq0-clause-closes
returns-else-place-eq0-clause-closes g c = λ role d.
    let b = branched_of c.args.b.now in
    let init = c.args.init.now in
    let seed = c.args.seed.now in
    let codes = c.args.codes.now in
    let s = g.W.Wire.state c.args.wire.now in
    let t = g.W.Wire.state c.record_stem.new.wire in
    let u = g.W.Wire.state c.record_again.new.wire in
    let first = c.index-codes-0.result in
    let other = c.index-codes-place.result in
    let place = c.place_begun-place.result in
    let choice = c.in-Ok-record_stem.choice in
    let within : place < length codes = omega (arith, c.place_begun-place.ensures role d.signs_are, chosen_within (begins_arm b.stem role c.as_slice.result.now) b.arms c.requires.some, c.requires.codes) in
    let at_first = item_at codes 0 first (omega (arith, c.requires.some, c.requires.codes)) c.index-codes-0.is in
    let at_other = item_at codes place other within c.index-codes-place.is in
    let begun : place ≡ place_begun b role choice.arrival = c.place_begun-place.ensures role d.signs_are ∙ ap (place_begun b role) c.as_slice.ensures in
    goes_on_there b role init seed codes d.free _ first c.in-Ok.machine c.record_stem.new.machine s t u choice.past.items choice.arrival (receives_so b role c.args.signs.now no_sign d.signs_are c.requires.some)
    (d.each 0 first at_first) c.in-Ok.ensures.run c.in-Ok-record_stem.ensures.chooses c.record_again.result.end place other begun at_other (d.each place other at_other) c.record_again.ensures.closes

pub returns-in-Err-clause-closes : goal.returns-in-Err-clause-closes
returns-in-Err-clause-closes g c = λ role d.
    let b = branched_of c.args.b.now in
    let codes = c.args.codes.now in
    let first = c.index-codes-0.result in
    let at_first = item_at codes 0 first (omega (arith, c.requires.some, c.requires.codes)) c.index-codes-0.is in
    ends_there b role c.args.init.now c.args.seed.now codes d.free _ first c.in-Ok.machine c.record_stem.new.machine (g.W.Wire.state c.args.wire.now) (g.W.Wire.state c.record_stem.new.wire) c.in-Err.end
    (receives_so b role c.args.signs.now no_sign d.signs_are c.requires.some) (d.each 0 first at_first) c.in-Ok.ensures.run c.in-Err.ensures.ends

pub returns-in_default-clause-faults : goal.returns-in_default-clause-faults
returns-in_default-clause-faults g c = rw c.nothing.ensures (wants_memory (g.W.Wire.state c.args.wire.now))

pub returns-then-place-eq0-clause-faults : goal.returns-then-place-eq0-clause-faults
returns-then-place-eq0-clause-faults g c =
    ends_later (g.W.Wire.state c.args.wire.now) (g.W.Wire.state c.record_stem.new.wire) (g.W.Wire.state c.record_on.new.wire) c.record_on.result.end
    c.in-Ok-record_stem.ensures.quiet c.record_on.ensures.faults

pub returns-else-place-eq0-clause-faults : goal.returns-else-place-eq0-clause-faults
returns-else-place-eq0-clause-faults g c =
    ends_later (g.W.Wire.state c.args.wire.now) (g.W.Wire.state c.record_stem.new.wire) (g.W.Wire.state c.record_again.new.wire) c.record_again.result.end
    c.in-Ok-record_stem.ensures.quiet c.record_again.ensures.faults

pub record_on-requires-clause-next : goal.record_on-requires-clause-next
record_on-requires-clause-next g c = (c.in-Ok-record_stem.ensures.chooses.event, c.in-Ok-record_stem.ensures.chooses.next)

-- ---- what is recorded

pub returns-in_default-clause-recorded : goal.returns-in_default-clause-recorded
returns-in_default-clause-recorded g c = λ role d some. absurd (some c.nothing.ensures)

pub returns-then-place-eq0-clause-recorded : goal.returns-then-place-eq0-clause-recorded
returns-then-place-eq0-clause-recorded g c = λ role d some.
    let b = branched_of c.args.b.now in
    let init = c.args.init.now in
    let seed = c.args.seed.now in
    let codes = c.args.codes.now in
    let s = g.W.Wire.state c.args.wire.now in
    let t = g.W.Wire.state c.record_stem.new.wire in
    let first = c.index-codes-0.result in
    let choice = c.in-Ok-record_stem.choice in
    let chooses = c.in-Ok-record_stem.ensures.chooses in
    let receives = receives_so b role c.args.signs.now no_sign d.signs_are c.requires.some in
    let begun : c.place_begun-place.result ≡ place_begun b role choice.arrival = c.place_begun-place.ensures role d.signs_are ∙ ap (place_begun b role) c.as_slice.ensures in
    let x =
    records_here c.args.file.now (run_bytes first init seed 0) c.in-Ok.machine c.in-Ok.ensures.run s (g.J.Store.state c.args.journal.now) (g.J.Store.state c.record_on.new.journal) c.record_on.result.kept
    t (g.J.Store.state c.record_stem.new.journal) c.record_stem.new.kept choice.past.items choice.arrival c.record_stem.new.machine c.in-Ok-record_stem.ensures.heard c.record_on.result.end c.record_on.new.machine (c.record_on.ensures.came some) in
    record {
      place = 0;
      code = first;
      at = item_at codes 0 first (omega (arith, c.requires.some, c.requires.codes)) c.index-codes-0.is;
      records = x.0;
      taken = taken_there b role _ choice.past.items x.1.0 choice.arrival d.free x.1.1 (omega (arith, chooses.all, receives)) ∙ sym begun ∙ c.if-place-eq0.true;
    }

pub returns-else-place-eq0-clause-recorded : goal.returns-else-place-eq0-clause-recorded
returns-else-place-eq0-clause-recorded g c = λ role d some.
    let b = branched_of c.args.b.now in
    let init = c.args.init.now in
    let seed = c.args.seed.now in
    let codes = c.args.codes.now in
    let s = g.W.Wire.state c.args.wire.now in
    let t = g.W.Wire.state c.record_stem.new.wire in
    let first = c.index-codes-0.result in
    let other = c.index-codes-place.result in
    let place = c.place_begun-place.result in
    let choice = c.in-Ok-record_stem.choice in
    let chooses = c.in-Ok-record_stem.ensures.chooses in
    let receives = receives_so b role c.args.signs.now no_sign d.signs_are c.requires.some in
    let within : place < length codes = omega (arith, c.place_begun-place.ensures role d.signs_are, chosen_within (begins_arm b.stem role c.as_slice.result.now) b.arms c.requires.some, c.requires.codes) in
    let at_first = item_at codes 0 first (omega (arith, c.requires.some, c.requires.codes)) c.index-codes-0.is in
    let at_other = item_at codes place other within c.index-codes-place.is in
    let begun : place ≡ place_begun b role choice.arrival = c.place_begun-place.ensures role d.signs_are ∙ ap (place_begun b role) c.as_slice.ensures in
    let x =
    records_there c.args.file.now (run_bytes first init seed 0) c.in-Ok.machine c.in-Ok.ensures.run s (g.J.Store.state c.args.journal.now) (g.J.Store.state c.record_again.new.journal) c.record_again.result.kept
    t (g.J.Store.state c.record_stem.new.journal) c.record_stem.new.kept choice.past.items choice.arrival c.record_stem.new.machine c.in-Ok-record_stem.ensures.heard c.record_again.result.end
    (stem_receives b role) (run_taken b role None init seed codes) (run_bytes other init seed 0) (d.each 0 first at_first) (d.each place other at_other) (omega (arith, chooses.all, receives)) chooses.past_bytes chooses.event chooses.next
    (c.record_again.ensures.again some) in
    record {
      place = place;
      code = other;
      at = at_other;
      records = x.0;
      taken = taken_there b role _ choice.past.items x.1.0 choice.arrival d.free x.1.1 (omega (arith, chooses.all, receives)) ∙ sym begun;
    }

pub returns-in-Err-clause-recorded : goal.returns-in-Err-clause-recorded
returns-in-Err-clause-recorded g c = λ role d some.
    let b = branched_of c.args.b.now in
    let first = c.index-codes-0.result in
    let came = c.in-Err.ensures.came some in
    let receives = receives_so b role c.args.signs.now no_sign d.signs_are c.requires.some in
    let x =
    records_first c.args.file.now (run_bytes first c.args.init.now c.args.seed.now 0) c.in-Ok.machine c.in-Ok.ensures.run (g.W.Wire.state c.args.wire.now) (g.J.Store.state c.args.journal.now) (g.J.Store.state c.record_stem.new.journal) c.record_stem.new.kept
    c.record_stem.new.machine c.in-Err.end came.0 in
    record {
      place = 0;
      code = first;
      at = item_at c.args.codes.now 0 first (omega (arith, c.requires.some, c.requires.codes)) c.index-codes-0.is;
      records = x.0;
      taken = taken_before b role _ d.free (omega (arith, ap length x.1, came.1, receives));
    }
