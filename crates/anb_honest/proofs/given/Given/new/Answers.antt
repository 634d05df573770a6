use Rattle.std.proofs.Common.{◌≡◌, ◌+◌, ◌++◌, ◌∷◌, ◌∙◌, ℕ, List, [], Bool, cond, get_or, take, arith, sym, ap, subst}
use Rattle.anb_honest.proofs.Placing.{IsPlaced, one_placed, take_read}
use Rattle.anb_honest.proofs.given.Given.new.Goals.{then-branch, else-branch}
use Rattle.anb_honest.proofs.given.Given.new.Goals as goal

pub loop-a-preserved : goal.loop-a-preserved
loop-a-preserved c =
    let items = c.deref-a-items.result.now in
    let i = c.loop-a.a-index in
    let next = c.loop-a.next in
    let one = one_placed (take i items) c.loop-a.places.items c.put_place.new.places.items next (get_or items i 0) c.in_ok-put_place.field-0 c.loop-a.invariant c.in_ok-put_place.ensures.new c.in_ok-put_place.ensures.each in
    let count : cond c.in_ok-put_place.field-0 (next + 1) next ≡ c.if-branch.next = elim c.if-branch.branch [
      | then-branch w ↦ ap (λ (v : Bool). cond v (next + 1) next) w.if-branch.true ∙ sym w.next-is
      | else-branch w ↦ ap (λ (v : Bool). cond v (next + 1) next) w.if-branch.false ∙ sym w.next-is
    ] in
    subst (λ (l : List ℕ). IsPlaced l c.put_place.new.places.items c.if-branch.next) (sym (take_read items i (omega arith)))
    (subst (λ n. IsPlaced (take i items ++ get_or items i 0 ∷ []) c.put_place.new.places.items n) count one)
