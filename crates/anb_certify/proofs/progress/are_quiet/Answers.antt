use Rattle.std.proofs.Common.{◌≡◌, ◌<◌, false, Some, length, get_or, sym, ap, ◌∙◌, subst, arith, ⊎_elim}
use Rattle.std.specs.Prelude.{slice_get}
use Rattle.std.proofs.lemmas.List.{length-map}
use Rattle.anb_lemmas.proofs.Numbers.{below_or_it}
use Rattle.anb_lemmas.proofs.Lists.{got_within}
use Rattle.anb_intern.specs.declared.node.NodeId.{NodeId}
use Rattle.anb_intern.specs.Nodes.{operands_at, tree_at}
use Rattle.anb_intern.proofs.Nodes.{over_more}
use Rattle.anb_intern.proofs.Putting.{under_at}
use Rattle.anb_reason.specs.Decided.{composes}
use Rattle.anb_certify.specs.Progress.{wanted_test}
use Rattle.anb_certify.proofs.Grouping.{get_here, at_register}
use Rattle.anb_certify.proofs.Ruling.{wanted_is}
use Rattle.anb_certify.proofs.progress.are_quiet.Goals as goal

pub get-requires : goal.get-requires
get-requires c =
    let d : NodeId = record { 0 = 0 } in
    let r = get_or c.args.pending.now c.loop-r.r-index 0 in
    under_at (length c.args.pool.now) c.args.ids.now r d c.requires.under (c.requires.below c.loop-r.r-index r (get_here c.args.pending.now c.loop-r.r-index 0 c.loop-r-test.true))

pub is_wanted-requires : goal.is_wanted-requires
is_wanted-requires c =
    let pool = c.args.pool.now in
    let ids = c.args.ids.now in
    let ts = operands_at pool ids in
    let d : NodeId = record { 0 = 0 } in
    let r = get_or c.args.pending.now c.loop-r.r-index 0 in
    let below = under_at (length pool) ids r d c.requires.under (c.requires.below c.loop-r.r-index r (get_here c.args.pending.now c.loop-r.r-index 0 c.loop-r-test.true)) in
    let made = c.in_ok-composing.ensures ts (c.deref.ensures.value ∙ c.in_ok-marks.ensures) in
    over_more (get_or ids r d).0 (length c.deref-in-loop-r.result.now) c.get.result.now (omega (arith, below, ap length c.deref-in-loop-r.ensures.value, ap length made, length-map pool (composes ts))) c.get.ensures.before

pub loop-r-preserved : goal.loop-r-preserved
loop-r-preserved c k f t l e at =
    let pool = c.args.pool.now in
    let ids = c.args.ids.now in
    let pending = c.args.pending.now in
    let ts = operands_at pool ids in
    let d : NodeId = record { 0 = 0 } in
    let i = c.loop-r.r-index in
    let r = get_or pending i 0 in
    let here : slice_get pending i ≡ Some r = get_here pending i 0 c.loop-r-test.true in
    let within : r < length ids = c.requires.below i r here in
    let below = under_at (length pool) ids r d c.requires.under within in
    let made = c.in_ok-composing.ensures ts (c.deref.ensures.value ∙ c.in_ok-marks.ensures) in
    let over = over_more (get_or ids r d).0 (length pool) c.get.result.now (omega (arith, below)) c.get.ensures.before in
    let u = tree_at pool c.get.result.now in
    let term : slice_get ts r ≡ Some u = at_register pool ids r (get_or ids r d) u (get_here ids r d within) c.get.ensures.stands in
    let off : wanted_test ts u ≡ false = sym (wanted_is ts pool c.deref-in-loop-r.result.now c.get.result.now (c.deref-in-loop-r.ensures.value ∙ made) over) ∙ sym c.is_wanted.ensures ∙ c.if-is_wanted.false in
    ⊎_elim (λ less. c.loop-r.invariant k f t less e at)
    (λ s.
    let g : Some r ≡ Some f = sym here ∙ ap (slice_get pending) s ∙ e in
    let same : r ≡ f = cc in
    let q : Some u ≡ Some t = sym term ∙ ap (slice_get ts) same ∙ at in
    let terms : u ≡ t = cc in
    subst (λ z. wanted_test ts z ≡ false) terms off) (below_or_it k i l)

pub returns : goal.returns
returns c h k f t e at = c.loop-r.invariant k f t (omega (arith, got_within c.args.pending.now k f e, c.loop-r.auto.r-index-end, c.loop-r-test.false)) e at
