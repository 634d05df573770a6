use Rattle.std.proofs.Common.{length, arith, ap, ◌∙◌, refl}
use Rattle.std.proofs.lemmas.Option.{slice_get-get_or}
use Rattle.anb_basis.proofs.Marks.{after_none, after_more, equals_next}
use Rattle.anb_basis.proofs.Ordering.{no_equals, more_equals}
use Rattle.anb_basis.proofs.Listing.{none_marked, listed_next, first_marked}
use Rattle.anb_basis.proofs.adding.add_equals.Goals as goal

pub loop-i-init : goal.loop-i-init
loop-i-init c = record {
  more = after_none c.args.given.now.items;
  stay = λ k e. e;
  long = refl;
  given = c.requires.given;
  compared = no_equals c.args.given.now.items;
  each = none_marked c.args.closure.now c.args.touched.now c.args.from c.args.marks.now.items;
}

pub loop-i-preserved-then-i-from : goal.loop-i-preserved-then-i-from
loop-i-preserved-then-i-from c =
    let i = c.loop-i.invariant in
    let here = slice_get-get_or c.args.touched.now c.loop-i.i-index 0 (omega arith) in
    record {
      more = i.more;
      stay = i.stay;
      long = i.long;
      given = i.given;
      compared = i.compared;
      each = listed_next c.args.closure.now c.args.touched.now c.args.from c.loop-i.marks.items c.loop-i.marks.items c.loop-i.i-index _ i.each (λ k e. e) here (λ d h k. absurd (omega (arith, h)));
    }

pub loop-i-preserved : goal.loop-i-preserved
loop-i-preserved c =
    let i = c.loop-i.invariant in
    let e = c.in_ok-add_equal.ensures in
    let here = slice_get-get_or c.args.touched.now c.loop-i.i-index 0 (omega arith) in
    record {
      more = after_more c.args.given.now.items c.loop-i.given.items _ i.more e.more;
      stay = λ k h. e.stay k (i.stay k h);
      long = e.long ∙ i.long;
      given = e.ok;
      compared = more_equals c.args.given.now.items c.loop-i.given.items _ i.compared e.compared;
      each = listed_next c.args.closure.now c.args.touched.now c.args.from c.loop-i.marks.items c.add_equal.new.marks.items c.loop-i.i-index _ i.each e.stay here (λ d h k. e.marked d k);
    }

pub loop-at-init : goal.loop-at-init
loop-at-init c =
    let i = c.loop-i.invariant in
    record {
      more = i.more;
      stay = i.stay;
      long = i.long;
      given = i.given;
      compared = i.compared;
      equals = first_marked c.args.closure.now c.args.touched.now c.args.from c.args.marks.now.items c.loop-i.marks.items c.loop-i.i-index c.requires.touched i.stay (omega arith) i.each;
    }

pub loop-at-preserved : goal.loop-at-preserved
loop-at-preserved c =
    let i = c.loop-at.invariant in
    let e = c.in_ok-add_equal-2.ensures in
    record {
      more = after_more c.args.given.now.items c.loop-at.given.items _ i.more e.more;
      stay = λ k h. e.stay k (i.stay k h);
      long = e.long ∙ i.long;
      given = e.ok;
      compared = more_equals c.args.given.now.items c.loop-at.given.items _ i.compared e.compared;
      equals = equals_next c.args.closure.now c.loop-at.marks.items _ c.loop-at.at i.equals e.stay e.marked;
    }

pub returns-clause-equals : goal.returns-clause-equals
returns-clause-equals c i d h k = c.loop-at.invariant.equals i d (omega (arith, ap length c.entries-count.ensures.same)) k
