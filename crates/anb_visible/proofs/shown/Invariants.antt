use Rattle.std.proofs.Common.{◌≡◌, ◌-◌, ◌≤◌, ◌++◌, take, drop}
use Rattle.anb_visible.specs.Visible.{shown_after, visible}
use Rattle.anb_visible.proofs.shown.Given as goal

abbrev pub invariant-loop-i : goal.invariant-loop-i
invariant-loop-i l = record {
  from : l.start ≤ l.i;
  shown : l.out.items ++ shown_after (take (l.i - l.start) (drop l.start l.bytes)) (drop l.i l.bytes) ≡ visible l.bytes;
}
