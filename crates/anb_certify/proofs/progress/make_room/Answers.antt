use Rattle.std.proofs.Common.{◌∷◌, [], None, Option, ℕ, List, length, ap, sym, subst, arith, length-append}
use Rattle.anb_certify.specs.Progress.{HasRoom}
use Rattle.anb_certify.proofs.Progressing.{no_room, room_next}
use Rattle.anb_certify.proofs.progress.make_room.Goals as goal

pub loop-k-init : goal.loop-k-init
loop-k-init c = record { count = omega (arith, c.len-k.ensures, c.args.seen.now.ok.0); more = no_room c.args.seen.now.items }

pub loop-k-preserved : goal.loop-k-preserved
loop-k-preserved c =
    let old = c.args.seen.now.items in
    let seen = c.loop-k.seen.items in
    let none : Option ℕ = None in
    let R : List (Option ℕ) → Type 0 = λ l. HasRoom old l in
    record {
      count = omega (arith, ap length c.in_ok-push.ensures.items, length-append seen (none ∷ []), c.loop-k.invariant.count);
      more = subst R (sym c.in_ok-push.ensures.items) (room_next old seen c.loop-k.invariant.more);
    }
