use Rattle.std.proofs.Common.{◌<◌, length, get_or, ◌∙◌, arith}
use Rattle.anb_lemmas.proofs.Lists.{got_within}
use Rattle.anb_certify.proofs.Falling.{follow_low, follow_less, follow_flat, named_set, on_tied}
use Rattle.anb_certify.proofs.Grouping.{get_here, set_long}
use Rattle.anb_certify.proofs.classes.flatten.Goals as goal

pub bounds-names-names : goal.bounds-names-names
bounds-names-names c =
    let names = c.loop-i.names in
    let i = c.loop-i.i in
    let within : i < length names = omega (arith, c.loop-i-test.true, c.loop-i.invariant.long) in
    omega (arith, c.loop-i.invariant.low i (get_or names i 0) (get_here names i 0 within), within)

pub loop-i-preserved : goal.loop-i-preserved
loop-i-preserved c =
    let names = c.loop-i.names in
    let i = c.loop-i.i in
    let inv = c.loop-i.invariant in
    let within : i < length names = omega (arith, c.loop-i-test.true, inv.long) in
    let x = get_or names i 0 in
    let here = get_here names i 0 within in
    let below : x < length names = omega (arith, inv.low i x here, within) in
    let y = get_or names x 0 in
    let then = get_here names x 0 below in
    record {
      long = set_long names i y ∙ inv.long;
      low = follow_low names i x y here then inv.low;
      flat = follow_flat names i x y here then inv.low inv.flat;
      less = let f = follow_less names i x y here then inv.low in omega (arith, f, inv.less);
      named = λ did h. named_set did names i y (inv.named did h) (on_tied did i x y (inv.named did h i x here) (inv.named did h x y then));
    }

pub returns-clause-flat : goal.returns-clause-flat
returns-clause-flat c i x e = c.loop-i.invariant.flat i x (omega (arith, got_within c.loop-i.names i x e, c.loop-i.auto.i-end, c.loop-i-test.false)) e
