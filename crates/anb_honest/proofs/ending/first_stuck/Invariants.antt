use Rattle.std.proofs.Common.{◌≡◌, ◌+◌, length}
use Rattle.anb_honest.specs.Inside.{first_stopped}
use Rattle.anb_honest.proofs.ending.first_stuck.Given as goal

abbrev pub invariant-loop-player : goal.invariant-loop-player
invariant-loop-player l = record {
  count : l.role + length l.player-iterator.rest.items ≡ length l.fn.players.items;
  same : first_stopped l.role l.player-iterator.rest.items ≡ first_stopped 0 l.fn.players.items;
}
