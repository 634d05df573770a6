-- A step to a parent's parent, which is the new parent.
use Rattle.std.proofs.Common.{◌≡◌, ℕ, ◌<◌, List, length, Some, sym, ap, ◌∙◌, arith}
use Rattle.std.specs.Prelude.{slice_get, slice_set, slice_index_or}
use Rattle.anb_lemmas.proofs.Lists.{item_at}
use Rattle.anb_term.specs.Tree.{Tree}
use Rattle.anb_intern.specs.declared.node.NodeId.{NodeId}
use Rattle.anb_unify.specs.Classes.{AreClasses}
use Rattle.anb_unify.proofs.Linking.{shorter_classes, shorter_smaller, shorter, shorter_same, shortened_on, same_over, same_id}
use Rattle.anb_unify.proofs.classes.find.Goals as goal

-- the parent of a place, and its own
record Steps (ps : List NodeId) (at : NodeId) (p up : NodeId) : Type 0 where
  here : slice_get ps at.0 ≡ Some p
  next : slice_get ps p.0 ≡ Some up

steps : (names : ℕ) (ts : List Tree) (ps : List NodeId) (at p up : NodeId) → AreClasses names ts ps → at.0 < length ts → p ≡ slice_index_or ps at.0 p → up ≡ slice_index_or ps p.0 up → Steps ps at p up
steps names ts ps at p up classes within a b =
    let here = item_at ps at.0 p (omega (arith, classes.long)) a in
    record { here = here; next = item_at ps p.0 up (omega (arith, classes.long, classes.within at.0 p here)) b }

tested : (ps : List NodeId) (at p q : NodeId) → slice_get ps at.0 ≡ Some p → q ≡ slice_index_or ps at.0 q → at.0 < length ps → p ≡ q
tested ps at p q here e within = let h = item_at ps at.0 q within e in cc

pub loop-at-smaller : goal.loop-at-smaller
loop-at-smaller c =
    let ps = c.loop-at.parents.items in
    let at = c.loop-at.at in
    let p = c.index-in-loop-at.result.now in
    let up = c.index-up.result.now in
    let s = steps c.args.names c.args.pool.now ps at p up c.loop-at.invariant.classes c.loop-at.invariant.within c.index-in-loop-at.ensures c.index-up.ensures in
    let same = tested ps at p c.index.result.now s.here c.index.ensures (omega (arith, c.loop-at.invariant.classes.long, c.loop-at.invariant.within)) in
    shorter_smaller c.args.names c.args.pool.now ps c.loop-at.invariant.classes at.0 p up s.here s.next (λ e. c.loop-at-test.true (sym (ap (λ (n : NodeId). n.0) same) ∙ e))

pub loop-at-preserved : goal.loop-at-preserved
loop-at-preserved c =
    let names = c.args.names in
    let ts = c.args.pool.now in
    let ps = c.loop-at.parents.items in
    let at = c.loop-at.at in
    let p = c.index-in-loop-at.result.now in
    let up = c.index-up.result.now in
    let before = c.loop-at.invariant in
    let s = steps names ts ps at p up before.classes before.within c.index-in-loop-at.ensures c.index-up.ensures in
    let same = tested ps at p c.index.result.now s.here c.index.ensures (omega (arith, before.classes.long, before.within)) in
    let apart = λ (e : p.0 ≡ at.0). c.loop-at-test.true (sym (ap (λ (n : NodeId). n.0) same) ∙ e) in
    let less = shorter names ts ps before.classes at.0 p up s.here s.next apart in
    record {
      classes = shorter_classes names ts ps before.classes at.0 p up s.here s.next apart;
      within = before.classes.within p.0 up s.next;
      shortened = shortened_on names ts c.args.parents.now.items ps (slice_set ps at.0 up) before.shortened less;
      same = λ f h. same_over ts f c.args.id.0 at.0 up.0 before.within (before.same f (less.back f h)) (shorter_same names ts ps before.classes at.0 p up s.here s.next apart f h);
    }

pub returns-clause-root : goal.returns-clause-root
returns-clause-root c =
    let ps = c.loop-at.parents.items in
    let at = c.loop-at.at in
    let here = item_at ps at.0 c.index.result.now (omega (arith, c.loop-at.invariant.classes.long, c.loop-at.invariant.within)) c.index.ensures in
    here ∙ ap Some (same_id c.index.result.now at c.loop-at-test.false)
