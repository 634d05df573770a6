use Rattle.std.proofs.Common.{◌+◌, List, refl, sym, ap, ◌∙◌, subst}
use Rattle.anb_certify.specs.declared.links.Pair.{Pair}
use Rattle.anb_certify.specs.Falling.{LinkApart}
use Rattle.anb_certify.specs.Links.{HasLinked}
use Rattle.anb_certify.proofs.Falling.{apart_next}
use Rattle.anb_certify.proofs.Placing.{one_skipped, one_pushed}
use Rattle.anb_certify.proofs.links.link_all.Goals.{then-names-a+in_ok-push, else-names-a}
use Rattle.anb_certify.proofs.links.link_all.Goals as goal

pub loop-j-preserved : goal.loop-j-preserved
loop-j-preserved c =
    let cs = c.args.names.now in
    let a = c.args.a in
    let b = c.args.b in
    let j = c.loop-j.j in
    let old = c.args.links.now.items in
    let new = c.loop-j.links.items in
    elim c.if-names-a.branch [
      | then-names-a+in_ok-push w ↦ (
          let m : Pair = record { 0 = a + j; 1 = b + j } in
          let is = ap (λ v. v.items) w.links-is ∙ w.in_ok-push.ensures.items in
          record {
            linked = one_pushed cs a b j old new c.if-names-a.links.items m c.loop-j.invariant.linked is refl refl;
            apart = λ h. apart_next cs new c.if-names-a.links.items m 0 is (c.requires.first j c.loop-j-test.true) (c.requires.second j c.loop-j-test.true) w.if-names-a.true (c.loop-j.invariant.apart h);
          }
          )
      | else-names-a w ↦ (
          let P : List Pair → Type 0 = λ l. HasLinked cs a b (j + 1) old l in
          let is = sym (ap (λ v. v.items) w.links-is) in
          record {
            linked = subst P is (one_skipped cs a b j old new 0 c.loop-j.invariant.linked (c.requires.first j c.loop-j-test.true) (c.requires.second j c.loop-j-test.true) w.if-names-a.false);
            apart = λ h. subst (LinkApart cs) is (c.loop-j.invariant.apart h);
          }
          )
    ]
