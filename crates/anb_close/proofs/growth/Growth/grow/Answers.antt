use Rattle.std.proofs.Common.{◌≡◌, ◌<◌, ◌≤◌, ◌++◌, ◌⊎◌, [], ℕ, Some, length, arith, ap, subst}
use Rattle.std.specs.Prelude.{slice_get}
use Rattle.anb_close.proofs.Growing.{grown_few, cut_grown, back_none, back_extends, labelled, nodes_grown, more_parts, fewer_left}
use Rattle.anb_close.specs.Entries.{NoKeys, HasTouched}
use Rattle.anb_close.proofs.Due.{touched_more, due_first, due_next, none_due}
use Rattle.anb_close.proofs.growth.Growth.grow.Goals as goal

pub labels-label-requires-clause-few : goal.labels-label-requires-clause-few
labels-label-requires-clause-few c = omega (arith, grown_few _ _ c.requires.rest.grown)

pub returns-in_err-copy-clause-back : goal.returns-in_err-copy-clause-back
returns-in_err-copy-clause-back c = back_none _ _ (cut_grown _ _ c.requires.rest.grown) c.requires.rest.grown.long

pub push-requires-clause-few : goal.push-requires-clause-few
push-requires-clause-few c = omega (arith, grown_few _ _ c.requires.rest.grown)

pub returns-in_err-push-clause-back : goal.returns-in_err-push-clause-back
returns-in_err-push-clause-back c = back_extends _ _ _ _ _ c.in_err-push.ensures.err _ _ (back_none _ _ (cut_grown _ _ c.requires.rest.grown) c.requires.rest.grown.long)

pub worklist-init : goal.worklist-init
worklist-init c =
    let l = labelled _ _ _ _ c.labels-label.result c.args.t.now c.in_ok-copy.field-0 c.requires.rest.grown c.labels-label.ensures c.in_ok-copy.ensures c.requires.formed c.in_ok-push.ensures.ok in
    let first = subst (λ ks. HasTouched c.args.self.now.entries.items ks c.push.new.self.entries.items c.push.new.touched.items) c.new-touched.ensures.items c.in_ok-push.ensures.touched in
    record {
      doubles = c.in_ok-push.ensures.doubles;
      indexed = c.in_ok-push.ensures.indexed;
      back = back_extends _ _ _ _ _ c.in_ok-push.ensures.ok _ _ (back_none _ _ (cut_grown _ _ c.requires.rest.grown) c.requires.rest.grown.long);
      grown = l.0;
      parts = [];
      are = tt;
      is = l.1;
      touched = first;
      due = due_first _ _ _ _ _ _ c.requires.rest c.in_ok-push.ensures.ok first;
    }

pub open-requires-clause-few : goal.open-requires-clause-few
open-requires-clause-few c =
    let i = c.worklist.invariant in
    omega (arith, nodes_grown _ _ _ _ i.parts i.is i.are)

pub returns-in_err-open-in-Some-clause-back : goal.returns-in_err-open-in-Some-clause-back
returns-in_err-open-in-Some-clause-back c = c.in_err-open-in-Some.ensures.back _ _ c.worklist.invariant.back

pub worklist-smaller : goal.worklist-smaller
worklist-smaller c =
    let fewer = fewer_left _ _ _ c.in_ok-open-in-Some.ensures.grown c.in_ok-open-in-Some.ensures.opened in
    omega (arith, fewer)

pub worklist-preserved : goal.worklist-preserved
worklist-preserved c =
    let i = c.worklist.invariant in
    let e = c.in_ok-open-in-Some.ensures in
    let m = more_parts _ _ _ _ _ i.parts i.is i.are e.opened in
    let passed = subst (λ ks. (k j : ℕ) → c.worklist.from ≤ k → k < c.in-Some.after → slice_get ks k ≡ Some j → (j ≡ c.in-Some.of) ⊎ NoKeys c.worklist.self.entries.items c.worklist.self.firsts.items j) c.deref.ensures.value (rw c.in-Some.is at c.in_ok-next.ensures.passed) in
    let within : c.in-Some.after ≤ length c.worklist.touched.items = omega (arith, rw c.in-Some.is at c.in_ok-next.ensures.within, ap length c.deref.ensures.value) in
    record {
      doubles = e.doubles;
      indexed = e.indexed;
      back = e.back _ _ i.back;
      grown = e.grown;
      parts = i.parts ++ e.opened.parts;
      are = m.0;
      is = m.1;
      touched = touched_more _ _ _ _ _ _ i.touched e.touched;
      due = due_next c.worklist.self.entries.items c.open.new.self.entries.items c.worklist.self.firsts.items c.open.new.self.firsts.items c.worklist.touched.items c.open.new.touched.items c.worklist.from c.in-Some.after c.in-Some.of i.grown.long i.due passed within e.touched e.closed;
    }

pub returns-in-None-clause-ok : goal.returns-in-None-clause-ok
returns-in-None-clause-ok c =
    let i = c.worklist.invariant in
    let shut = subst (λ ks. (k j : ℕ) → c.worklist.from ≤ k → slice_get ks k ≡ Some j → NoKeys c.worklist.self.entries.items c.worklist.self.firsts.items j) c.deref.ensures.value (rw c.in-None.is at c.in_ok-next.ensures.passed) in
    record {
      parts = i.parts;
      are = i.are;
      is = i.is;
      rest = record {
        grown = i.grown;
        shut = none_due c.worklist.self.entries.items c.worklist.self.firsts.items c.worklist.touched.items c.worklist.from i.due shut;
      };
    }
