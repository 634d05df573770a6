use Rattle.std.proofs.Common.{ℕ, arith, ◌∙◌}
use Rattle.anb_base.proofs.Joined.{Put-joined}
use Rattle.std.proofs.Math.Seq.{take-add}
use Rattle.std.proofs.lemmas.List.{take_rest, length-drop}
use Rattle.anb_base.proofs.wire.write_whole.Goals as goal

pub loop-done-preserved : goal.loop-done-preserved
loop-done-preserved g c =
    let rest = take_rest c.args.bytes.now c.loop-done.done in
    let within = rw rest at c.in_ok-done.ensures.within in
    let put = rw rest at c.in_ok-done.ensures.put in record {
      within = omega (arith, length-drop {A = ℕ}, within, c.loop-done-test.true);
      put = rw (take-add c.loop-done.done) (Put-joined _ _ _ _ _ c.loop-done.invariant.put put);
      quiet = c.in_ok-done.ensures.quiet ∙ c.loop-done.invariant.quiet;
      kept = cc;
    }
