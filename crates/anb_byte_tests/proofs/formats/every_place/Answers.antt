use Rattle.std.proofs.Common.{◌<◌, ◌++◌, ◌∷◌, [], ℕ, List, arith}
use Rattle.std.specs.List.{AllByRecursion}
use Rattle.std.proofs.lemmas.List.{length_push}
use Rattle.anb_byte_tests.proofs.formats.every_place.Goals as goal

one_more : (size : ℕ) (places : List ℕ) (i : ℕ) → i < size → AllByRecursion (λ k. k < size) places → AllByRecursion (λ k. k < size) (places ++ i ∷ [])
one_more size [] i below all = (below, tt)
one_more size (k ∷ places) i below all = (all.0, one_more size places i below all.1)

pub loop-i-preserved : goal.loop-i-preserved
loop-i-preserved c =
    rw c.in_ok-push.ensures.items (record {
      count = omega (arith, length_push c.loop-i.places.items c.loop-i.i, c.loop-i.invariant.count);
      within = one_more _ c.loop-i.places.items c.loop-i.i (omega (arith, c.args.table.now.ok.0)) c.loop-i.invariant.within;
    })
