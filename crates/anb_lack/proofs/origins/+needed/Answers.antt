use Rattle.std.proofs.Common.{◌≡◌, ◌+◌, ◌∷◌, [], Some, map, take, ap, ◌∙◌, subst, arith, inl, inr}
use Rattle.std.specs.Prelude.{slice_get}
use Rattle.anb_term.proofs.Lists.{map-append, slice_get-at, slice_get-map}
use Rattle.anb_lemmas.proofs.Each.{take_next}
use Rattle.anb_close.specs.MadeView.{made_tree}
use Rattle.anb_compile.proofs.Writing.{size_at}
use Rattle.anb_lack.proofs.Having.{needed_next}
use Rattle.anb_lack.proofs.origins.+needed.Goals as goal
use Rattle.anb_lack.proofs.origins.+needed.Goals.{needed_by_all-then-count-most, needed_by_all-else-count-most}

pub needed_by_all-needed-count-requires : goal.needed_by_all-needed-count-requires
needed_by_all-needed-count-requires t c =
    let x = c.made-item.result in
    let i = c.loop-made.made-index in
    let items = c.as_slice-made-items.result.now in
    let here : slice_get c.args.all.now i ≡ Some (made_tree x) =
    subst (λ l. slice_get l i ≡ Some (made_tree x)) c.as_slice-made-items.ensures (slice_get-map made_tree items i x (slice_get-at items i x (omega arith) c.made-item.is)) in
    (omega (arith, size_at c.args.all.now i (made_tree x) here, c.decreases), tt)

pub needed_by_all-loop-made-preserved : goal.needed_by_all-loop-made-preserved
needed_by_all-loop-made-preserved t c =
    let x = c.made-item.result in
    let i = c.loop-made.made-index in
    let items = c.as_slice-made-items.result.now in
    let next = ap (map made_tree) (take_next items i x (omega arith) c.made-item.is) ∙ map-append made_tree (take i items) (x ∷ []) in
    elim c.if-count-most.branch [
      | needed_by_all-then-count-most w ↦ needed_next (map made_tree (take i items)) (map made_tree (take (i + 1) items)) (made_tree x) c.loop-made.most c.needed-count.result c.if-count-most.most next c.loop-made.invariant c.needed-count.ensures
          (omega (arith, w.most-is)) (omega (arith, w.most-is)) (inr w.most-is)
      | needed_by_all-else-count-most w ↦ needed_next (map made_tree (take i items)) (map made_tree (take (i + 1) items)) (made_tree x) c.loop-made.most c.needed-count.result c.if-count-most.most next c.loop-made.invariant c.needed-count.ensures
          (omega (arith, w.most-is)) (omega (arith, w.most-is)) (inl w.most-is)
    ]
