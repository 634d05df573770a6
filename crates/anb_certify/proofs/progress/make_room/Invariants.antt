use Rattle.std.proofs.Common.{◌≡◌, length}
use Rattle.anb_certify.specs.Progress.{HasRoom}
use Rattle.anb_certify.proofs.progress.make_room.Given as goal

abbrev pub invariant-loop-k : goal.invariant-loop-k
invariant-loop-k l = record {
  count : length l.seen.items ≡ l.k;
  more : HasRoom l.initial.seen.items l.seen.items;
}
