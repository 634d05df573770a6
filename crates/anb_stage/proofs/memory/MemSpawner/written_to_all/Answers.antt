use Rattle.std.proofs.Common.{arith}
use Rattle.anb_stage.specs.Memory.{children_of}
use Rattle.anb_stage.proofs.Totals.{written_next, written_none}
use Rattle.anb_stage.proofs.memory.MemSpawner.written_to_all.Goals as goal

pub loop-role-init : goal.loop-role-init
loop-role-init c = record { sum = written_none _; most = omega arith }

pub loop-role-preserved : goal.loop-role-preserved
loop-role-preserved c =
    let next = written_next c.loop-role.role (λ role. (children_of c.args.self.now role).written) in
    record {
      sum = omega (arith, next, c.loop-role.invariant.sum, c.written_to-all.ensures.length);
      most = omega (arith, c.loop-role.invariant.most, c.written_to-all.ensures.most);
    }
