use Rattle.std.proofs.Common.{◌≡◌, ◌+◌, ◌++◌, length}
use Rattle.anb_honest.specs.Inside.{sent_from}
use Rattle.anb_honest.proofs.ending.all_sent.Given as goal

abbrev pub invariant-loop-slot : goal.invariant-loop-slot
invariant-loop-slot l = record {
  count : l.action + length l.slot-iterator.rest.items ≡ length l.fn.told.items + 1;
  same : l.sent.items ++ sent_from l.action l.slot-iterator.rest.items ≡ sent_from 1 l.fn.told.items;
}
