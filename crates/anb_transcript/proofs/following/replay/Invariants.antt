use Rattle.std.proofs.Common.{◌≡◌, take}
use Rattle.anb_machine.specs.Machines.{gives}
use Rattle.anb_transcript.specs.Replays.{last_arrival}
use Rattle.anb_transcript.proofs.Reached.{Reached}
use Rattle.anb_transcript.proofs.following.replay.Given as goal

abbrev pub invariant-loop-line : goal.invariant-loop-line
invariant-loop-line l = record {
  covered : l.covered ≡ l.line-index;
  heard : l.heard ≡ last_arrival (take l.line-index l.line-items);
  reached : Reached (gives l.fn.machine) (gives l.machine) (take l.line-index l.line-items);
}
