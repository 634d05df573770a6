use Rattle.std.proofs.Common.{◌≡◌, ◌<◌, ◌∷◌, [], true, Some, length, set, get_or, ap, ◌∙◌, arith, length-append}
use Rattle.std.specs.Prelude.{slice_get, ◌==◌}
use Rattle.anb_intern.specs.declared.node.NodeId.{NodeId}
use Rattle.anb_intern.proofs.Putting.{under_at}
use Rattle.anb_term.proofs.Lists.{slice_get-append}
use Rattle.anb_certify.specs.Progress.{found_in}
use Rattle.anb_certify.proofs.Grouping.{get_here, set_long}
use Rattle.anb_certify.proofs.Progressing.{seen_room, entered, found_same}
use Rattle.anb_certify.proofs.progress.Progress.enter.Goals as goal

pub loop-i-preserved : goal.loop-i-preserved
loop-i-preserved c =
    let d : NodeId = record { 0 = 0 } in
    let ids = c.args.ids.now in
    let i = c.loop-i.i in
    let id = get_or ids i d in
    let inv = c.loop-i.invariant in
    let was = c.loop-i.self in
    let first = c.first_of-first.result in
    let now = c.in_ok-add.ensures in
    let below : id.0 < length was.seen.items = omega (arith, under_at c.args.numbers ids i d c.requires.under c.loop-i-test.true, inv.room) in
    let seen : c.add.new.self.seen.items ≡ set was.seen.items id.0 (Some first) = now.seen ∙ c.first_of-first.ensures.is in
    record {
      long = omega (arith, ap length now.firsts, length-append was.firsts.items (first ∷ []), inv.long);
      room = omega (arith, ap length seen, set_long was.seen.items id.0 (Some first), inv.room);
      found = λ ts did h. found_same ids ts did _ (found_in c.add.new.self) seen now.firsts now.flags now.known now.pending
          (entered ids ts did (found_in was) i id (get_here ids i d c.loop-i-test.true) inv.long below (inv.found ts did h) first c.first_of-first.ensures.was);
      kept = λ n e. ap (λ l. slice_get l n) now.flags ∙ slice_get-append was.flags.items ((first == i) ∷ []) n true (inv.kept n e);
    }

pub first_of-first-requires : goal.first_of-first-requires
first_of-first-requires c =
    let d : NodeId = record { 0 = 0 } in
    omega (arith, under_at c.args.numbers c.args.ids.now c.loop-i.i d c.requires.under c.loop-i-test.true, c.loop-i.invariant.room, c.loop-i.self.seen.ok.0)

pub returns-clause-found : goal.returns-clause-found
returns-clause-found c ts did h = c.loop-i.invariant.found ts did (seen_room c.args.ids.now ts did (found_in c.args.self.now) c.make_room.new.seen.items c.in_ok-make_room.ensures.more h)
