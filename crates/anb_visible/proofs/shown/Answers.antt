use Rattle.std.proofs.Common.{get_or, ap, ◌∙◌, arith}
use Rattle.std.proofs.lemmas.Bool.{le-ltb, lt-ltb}
use Rattle.anb_visible.specs.Visible.{visible}
use Rattle.anb_visible.proofs.Walking.{past_low, past_high}
use Rattle.anb_visible.proofs.shown.Goals.{then-b-lt128+in_ok-put_run+in_ok-put_byte, else-b-lt128}
use Rattle.anb_visible.proofs.shown.Goals as goal

pub loop-i-preserved : goal.loop-i-preserved
loop-i-preserved c =
    let bytes = c.args.bytes.now in
    let so_far = c.loop-i.invariant in
    elim c.if-b-lt128.branch [
      | then-b-lt128+in_ok-put_run+in_ok-put_byte w ↦ record {
        from = omega (arith, w.start-is);
        shown = past_low bytes c.loop-i.start c.loop-i.i 0 so_far.from c.loop-i-test.true c.loop-i.out.items (visible bytes) so_far.shown
            (lt-ltb (get_or bytes c.loop-i.i 0) 128 w.if-b-lt128.true) c.if-b-lt128.start w.put_run.new.out.items c.if-b-lt128.out.items w.in_ok-put_run.ensures (ap (λ v. v.items) w.out-is ∙ w.in_ok-put_byte.ensures) w.start-is;
      }
      | else-b-lt128 w ↦ record {
        from = omega (arith, w.start-is, so_far.from);
        shown = past_high bytes c.loop-i.start c.loop-i.i 0 so_far.from c.loop-i-test.true c.loop-i.out.items (visible bytes) so_far.shown
            (le-ltb (get_or bytes c.loop-i.i 0) 128 (omega (arith, w.if-b-lt128.false))) c.if-b-lt128.start c.if-b-lt128.out.items (ap (λ v. v.items) w.out-is) w.start-is;
      }
    ]
