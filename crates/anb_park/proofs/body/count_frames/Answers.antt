use Rattle.std.proofs.Common.{◌≡◌, ◌==◌, ◌++◌, ◌∷◌, [], length, true, ap, refl, arith, length-append}
use Rattle.anb_park.proofs.Framed.{four_at_least, no_cut, one_more, all_more, not_so}
use Rattle.anb_park.proofs.body.count_frames.Goals as goal

pub returns-in_default-clause-none : goal.returns-in_default-clause-none
returns-in_default-clause-none c =
    let so = c.loop-rest.invariant.so_far in
    no_cut c.args.bytes.now c.loop-rest.rest.now so.0 so.1 so.2
    (λ e. let empty : (length c.loop-rest.rest.now == 0) ≡ true = rw e refl in absurd (cc (empty, c.is_empty.ensures, c.loop-rest-test.true)))
    (λ b r fits e. not_so (c.in_default.ensures.again b r fits e))

pub loop-rest-smaller : goal.loop-rest-smaller
loop-rest-smaller c = omega (arith, ap length c.in-Some.ensures.some, four_at_least c.in-Some.field-0-0.now c.in-Some.behind.now)

pub loop-rest-preserved : goal.loop-rest-preserved
loop-rest-preserved c =
    let so = c.loop-rest.invariant.so_far in
    let b = c.in-Some.field-0-0.now in record {
      so_far = (
        so.0 ++ b ∷ [],
        one_more c.args.bytes.now so.0 c.loop-rest.rest.now b c.in-Some.behind.now so.1 c.in-Some.ensures.some,
        all_more so.0 b so.2 c.in-Some.ensures.fits,
        omega (arith, length-append so.0 (b ∷ []), so.3),
      );
      small = omega (arith, ap length c.in-Some.ensures.some, four_at_least b c.in-Some.behind.now, c.loop-rest.invariant.small);
    }
