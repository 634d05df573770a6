use Rattle.std.proofs.Common.{◌≡◌, ℕ, List, length}
use Rattle.anb_base.specs.Moves.{Took}
use Rattle.anb_base.specs.declared.TheConstants.{ARRIVAL}
use Rattle.anb_frame.specs.Frames.{frames}
use Rattle.anb_partner.proofs.talking.drain.Given as goal

abbrev pub invariant-loop-behind : goal.invariant-loop-behind
invariant-loop-behind g l = record {
  room : length l.buffer ≡ ARRIVAL;
  messages : (messages : List (List ℕ)) × (length messages ≡ l.behind) × Took (g.W.Source.left l.fn.child) (g.W.Source.left l.child) (frames messages);
  written : g.W.Sink.written l.child ≡ g.W.Sink.written l.fn.child;
  faults : g.W.Source.faults l.child ≡ g.W.Source.faults l.fn.child;
}
