use Rattle.std.proofs.Common.{◌≡◌, Some, true, refl, arith, ◌∙◌, ap, subst, ⊎_elim}
use Rattle.std.specs.Prelude.{slice_get}
use Rattle.anb_term.proofs.Lists.{slice_get-at}
use Rattle.anb_close.specs.declared.entry.Entry.{Entry}
use Rattle.anb_close.specs.declared.entry.Origin.TheVariants.{Part}
use Rattle.anb_basis.proofs.All.{one_opening}
use Rattle.anb_basis.proofs.Marks.{after_more, after_none, opens_next, not_first, first_here, of_within, fits_here}
use Rattle.anb_basis.proofs.Ordering.{label_none, part_none, part_one, listed_skip, listed_take, listed_all, not_true}
use Rattle.anb_basis.proofs.adding.add_opens.Goals as goal

pub loop-f-init : goal.loop-f-init
loop-f-init c = record {
  more = after_none c.args.given.now.items;
  stay = λ k h. h;
  long = refl;
  given = c.requires.given;
  opens = c.requires.marked;
  fresh = c.requires.fresh;
  listed = refl;
}

pub loop-f-preserved-in-Label : goal.loop-f-preserved-in-Label
loop-f-preserved-in-Label c =
    let i = c.loop-f.invariant in
    record {
      more = i.more;
      stay = i.stay;
      long = i.long;
      given = i.given;
      opens = opens_next c.args.entries.now c.loop-f.marks.items c.loop-f.marks.items c.loop-f.f i.opens (λ k e. e) (λ e o ks k at is. absurd (not_first c.args.entries.now c.loop-f.f c.index-entries-f.result e c.in-Label.field-0 o ks k (omega arith) c.index-entries-f.is (ap (λ (y : Entry). y.origin) c.index-entries-f.is ∙ c.in-Label.is) at is));
      fresh = λ g e o ks k h. i.fresh g e o ks k (omega arith);
      listed = listed_skip c.args.entries.now c.loop-f.f c.index-entries-f.result (omega arith) c.index-entries-f.is c.loop-f.given.items _ (label_none c.loop-f.f c.in-Label.field-0 c.index-entries-f.result.origin (ap (λ (y : Entry). y.origin) c.index-entries-f.is ∙ c.in-Label.is)) i.listed;
    }

pub loop-f-preserved-then-part-ne0 : goal.loop-f-preserved-then-part-ne0
loop-f-preserved-then-part-ne0 c =
    let i = c.loop-f.invariant in
    record {
      more = i.more;
      stay = i.stay;
      long = i.long;
      given = i.given;
      opens = opens_next c.args.entries.now c.loop-f.marks.items c.loop-f.marks.items c.loop-f.f i.opens (λ k e. e) (λ e o ks k at is. absurd (c.if-part-ne0.true (first_here c.args.entries.now c.loop-f.f c.index-entries-f.result e c.in-Part.op c.in-Part.part c.in-Part.keys c.in-Part.of o ks k (omega arith) c.index-entries-f.is (ap (λ (y : Entry). y.origin) c.index-entries-f.is ∙ c.in-Part.is) at is).0));
      fresh = λ g e o ks k h. i.fresh g e o ks k (omega arith);
      listed = listed_skip c.args.entries.now c.loop-f.f c.index-entries-f.result (omega arith) c.index-entries-f.is c.loop-f.given.items _ (part_none c.loop-f.f c.index-entries-f.result.origin c.in-Part.op c.in-Part.part c.in-Part.keys c.in-Part.of (ap (λ (y : Entry). y.origin) c.index-entries-f.is ∙ c.in-Part.is) c.if-part-ne0.true) i.listed;
    }

pub add_check-requires-clause-within : goal.add_check-requires-clause-within
add_check-requires-clause-within c = omega (arith, of_within c.args.entries.now c.loop-f.f c.index-entries-f.result c.in-Part.op c.in-Part.part c.in-Part.keys c.in-Part.of c.requires.known (omega arith) c.index-entries-f.is (ap (λ (y : Entry). y.origin) c.index-entries-f.is ∙ c.in-Part.is), c.loop-f.invariant.given.long)

pub add_check-requires-clause-unmarked : goal.add_check-requires-clause-unmarked
add_check-requires-clause-unmarked c =
    let i = c.loop-f.invariant in
    let w = of_within c.args.entries.now c.loop-f.f c.index-entries-f.result c.in-Part.op c.in-Part.part c.in-Part.keys c.in-Part.of c.requires.known (omega arith) c.index-entries-f.is (ap (λ (y : Entry). y.origin) c.index-entries-f.is ∙ c.in-Part.is) in
    let here = slice_get-at c.args.entries.now c.loop-f.f c.index-entries-f.result (omega arith) c.index-entries-f.is in
    let first : c.index-entries-f.result.origin ≡ Part c.in-Part.op 0 c.in-Part.keys c.in-Part.of = (ap (λ (y : Entry). y.origin) c.index-entries-f.is ∙ c.in-Part.is) ∙ ap (λ n. Part c.in-Part.op n c.in-Part.keys c.in-Part.of) c.if-part-ne0.false in
    not_true c.loop-f.marks.items c.in-Part.of (omega (arith, w, i.given.long)) (λ mark. i.fresh c.loop-f.f c.index-entries-f.result c.in-Part.op c.in-Part.keys c.in-Part.of (omega arith) here first mark)

pub loop-f-preserved : goal.loop-f-preserved
loop-f-preserved c =
    let i = c.loop-f.invariant in
    let e = c.in_ok-add_check-in-Part.ensures in
    let here = slice_get-at c.args.entries.now c.loop-f.f c.index-entries-f.result (omega arith) c.index-entries-f.is in
    let first : c.index-entries-f.result.origin ≡ Part c.in-Part.op 0 c.in-Part.keys c.in-Part.of = (ap (λ (y : Entry). y.origin) c.index-entries-f.is ∙ c.in-Part.is) ∙ ap (λ n. Part c.in-Part.op n c.in-Part.keys c.in-Part.of) c.if-part-ne0.false in
    record {
      more = after_more c.args.given.now.items c.loop-f.given.items _ i.more e.more;
      stay = λ k h. e.stay k (i.stay k h);
      long = e.long ∙ i.long;
      given = e.ok c.args.entries.now i.given (fits_here c.args.entries.now c.loop-f.f c.index-entries-f.result c.in-Part.op c.in-Part.part c.in-Part.keys c.in_ok-copy-in-Part.field-0 c.in-Part.of (omega arith) c.index-entries-f.is (ap (λ (y : Entry). y.origin) c.index-entries-f.is ∙ c.in-Part.is) c.if-part-ne0.false c.in_ok-copy-in-Part.ensures);
      opens = opens_next c.args.entries.now c.loop-f.marks.items _ c.loop-f.f i.opens e.stay (λ x o ks k at is. let s = (first_here c.args.entries.now c.loop-f.f c.index-entries-f.result x c.in-Part.op c.in-Part.part c.in-Part.keys c.in-Part.of o ks k (omega arith) c.index-entries-f.is (ap (λ (y : Entry). y.origin) c.index-entries-f.is ∙ c.in-Part.is) at is).1 in subst (λ n. slice_get c.add_check.new.marks.items n ≡ Some true) s e.marked);
      fresh = λ g x o ks k h at is mark. ⊎_elim
          (λ same. let u = one_opening c.args.entries.now c.requires.known c.loop-f.f g c.index-entries-f.result x c.in-Part.op o c.in-Part.keys ks c.in-Part.of k here first at is same in omega (arith, u.0, h))
          (λ old. i.fresh g x o ks k (omega (arith, h)) at is old)
          (e.only k mark);
      listed = listed_take c.args.entries.now c.loop-f.f c.index-entries-f.result (omega arith) c.index-entries-f.is c.loop-f.given.items _ _ _ (part_one c.loop-f.f c.index-entries-f.result.origin c.in-Part.op c.in-Part.part c.in-Part.keys c.in_ok-copy-in-Part.field-0 c.in-Part.of (ap (λ (y : Entry). y.origin) c.index-entries-f.is ∙ c.in-Part.is) c.if-part-ne0.false c.in_ok-copy-in-Part.ensures) e.pushed i.listed;
    }

pub returns-clause-opens : goal.returns-clause-opens
returns-clause-opens c f e o ks i h at is = c.loop-f.invariant.opens f e o ks i (omega arith) at is

pub returns-clause-listed : goal.returns-clause-listed
returns-clause-listed c = listed_all c.args.entries.now c.loop-f.f c.loop-f.given.items _ (omega arith) c.loop-f.invariant.listed
