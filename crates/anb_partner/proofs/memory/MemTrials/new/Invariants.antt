use Rattle.std.proofs.Common.{◌≡◌, ◌++◌, length, drop, ◌+◌}
use Rattle.anb_partner.specs.Memory.{fresh_trials}
use Rattle.anb_partner.proofs.memory.MemTrials.new.Given as goal

abbrev pub invariant-loop-wire : goal.invariant-loop-wire
invariant-loop-wire l = record {
  made : l.trials.items ++ fresh_trials l.wire-iterator.rest.items (drop (length l.trials.items) l.ends.items) ≡ fresh_trials l.fn.wires.items l.ends.items;
  count : length l.trials.items + length l.wire-iterator.rest.items ≡ length l.ends.items;
}
