use Rattle.std.proofs.Common.{◌≡◌, ◌<◌, Some, length, get_or, sym, ap, ◌∙◌, subst, arith, inl, inr, ⊎_elim}
use Rattle.std.specs.Prelude.{slice_get}
use Rattle.anb_intern.specs.declared.node.NodeId.{NodeId}
use Rattle.anb_intern.specs.Nodes.{operands_at}
use Rattle.anb_intern.proofs.Putting.{under_at}
use Rattle.anb_term.specs.Tree.{leaf}
use Rattle.anb_certify.specs.Numbered.{AreBelow}
use Rattle.anb_certify.proofs.Grouping.{get_here, at_register}
use Rattle.anb_certify.proofs.Progressing.{left_on, below_last, covered_left}
use Rattle.anb_certify.proofs.progress.still_pending.Goals.{then-is_left+in_ok-push, else-is_left}
use Rattle.anb_certify.proofs.progress.still_pending.Goals as goal

pub get-requires : goal.get-requires
get-requires c =
    let d : NodeId = record { 0 = 0 } in
    let r = get_or c.args.pending.now c.loop-r.r-index 0 in
    under_at (length c.args.pool.now) c.args.ids.now r d c.requires.under (c.requires.below c.loop-r.r-index r (get_here c.args.pending.now c.loop-r.r-index 0 c.loop-r-test.true))

pub loop-r-preserved : goal.loop-r-preserved
loop-r-preserved c =
    let d : NodeId = record { 0 = 0 } in
    let pool = c.args.pool.now in
    let ids = c.args.ids.now in
    let pending = c.args.pending.now in
    let known = c.args.known.now in
    let ts = operands_at pool ids in
    let i = c.loop-r.r-index in
    let left = c.loop-r.left.items in
    let inv = c.loop-r.invariant in
    let r = get_or pending i 0 in
    let here : slice_get pending i ≡ Some r = get_here pending i 0 c.loop-r-test.true in
    let below : r < length ids = c.requires.below i r here in
    elim c.if-is_left.branch [
      | then-is_left+in_ok-push w ↦ (
          let is = ap (λ v. v.items) w.left-is ∙ w.in_ok-push.ensures.items in
          record { below = below_last (length ids) left c.if-is_left.left.items r is below inv.below; covered = left_on ts known pending left c.if-is_left.left.items i r here (inl is) inv.covered }
          )
      | else-is_left w ↦ (
          let is = ap (λ v. v.items) w.left-is in
          let out = ⊎_elim (λ a. inl (get_here known r _ (omega (arith, below, c.requires.long)) ∙ ap Some a))
          (λ a. inr (a.0, at_register pool ids r (get_or ids r d) (leaf a.0) (get_here ids r d below) (c.get.ensures.stands ∙ ap Some a.1))) (c.is_left.ensures pool w.if-is_left.false) in
          record { below = subst (AreBelow (length ids)) (sym is) inv.below; covered = left_on ts known pending left c.if-is_left.left.items i r here (inr (is, out)) inv.covered }
          )
    ]

pub returns-clause-covered : goal.returns-clause-covered
returns-clause-covered c firsts h =
    covered_left (operands_at c.args.pool.now c.args.ids.now) firsts c.args.known.now c.args.pending.now c.loop-r.left.items
    (λ k f l e. c.loop-r.invariant.covered k f (omega (arith, l, c.loop-r.auto.r-index-end, c.loop-r-test.false)) e) h
