use Rattle.std.proofs.Common.{◌≤◌, ◌-◌, length}
use Rattle.anb_machine.specs.Keeping.{IsLean}
use Rattle.anb_machine.specs.Standing.{IsKept, IsSameRun, ComesSame}
use Rattle.anb_machine.proofs.state.RunState.advance.Given as goal

abbrev pub invariant-loop-turn : goal.invariant-loop-turn
invariant-loop-turn l = record {
  kept : IsKept l.self;
  lean : IsLean l.self;
  same : IsSameRun l.fn.self l.self;
  on : l.fn.self.next ≤ l.self.next;
  so_far : ComesSame l.fn.self l.self;
}

abbrev pub decreases-loop-turn : goal.decreases-loop-turn
decreases-loop-turn l = length l.self.code.now.instrs - l.self.next
