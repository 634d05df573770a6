use Rattle.std.proofs.Common.{◌≡◌, ◌≤◌, ◌*◌}
use Rattle.anb_stage.specs.Children.{written_below}
use Rattle.anb_stage.specs.Memory.{children_of}
use Rattle.anb_stage.proofs.memory.MemSpawner.written_to_all.Given as goal

abbrev pub invariant-loop-role : goal.invariant-loop-role
invariant-loop-role l = record {
  sum : l.all ≡ written_below l.role (λ role. (children_of l.self role).written);
  most : l.all ≤ l.role * 4294967296;
}
