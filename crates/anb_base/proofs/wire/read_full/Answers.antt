use Rattle.std.proofs.Common.{ℕ, arith, length-append, ◌∙◌}
use Rattle.std.proofs.lemmas.List.{length-take}
use Rattle.anb_base.proofs.Joined.{Took-joined, Stamped-joined, taken}
use Rattle.anb_base.proofs.wire.read_full.Goals as goal

pub loop-have-preserved : goal.loop-have-preserved
loop-have-preserved g c =
    let there = c.loop-have.invariant.within in
    let within = c.in_ok-n.ensures.within in record {
      within = omega (arith, length-append {A = ℕ}, length-take {A = ℕ}, there, within);
      took = rw (taken c.loop-have.have c.in_ok-n.n _ _ _ there within) (Took-joined _ _ _ _ _ c.loop-have.invariant.took c.in_ok-n.ensures.took);
      stamped =
          let w = c.loop-have.invariant.kept in
          Stamped-joined _ _ _ _ c.loop-have.have c.in_ok-n.n c.loop-have.invariant.stamped (rw w at c.in_ok-n.ensures.stamped);
      quiet = c.in_ok-n.ensures.quiet ∙ c.loop-have.invariant.quiet;
      kept = cc;
    }
