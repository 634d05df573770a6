use Rattle.std.proofs.Common.{◌≡◌, ◌+◌, ◌<◌, ◌^◌, List, length}
use Rattle.anb_base.specs.declared.TheConstants.{ARRIVAL}
use Rattle.anb_machine.specs.Machines.{gives, left}
use Rattle.anb_transcript.specs.declared.transcript.TranscriptLine.{TranscriptLine}
use Rattle.anb_partner.specs.Steps.{GoesOn}
use Rattle.anb_partner.proofs.talking.go_to_end.Given as goal

abbrev pub invariant-loop-stop : goal.invariant-loop-stop
invariant-loop-stop g l = record {
  goes_on : (more : List TranscriptLine) × GoesOn (gives l.fn.machine) (gives l.machine) l.fn.lines.items l.lines.items (g.W.Wire.state l.fn.child) (g.W.Wire.state l.child) more;
  few : length l.lines.items + 1 < 2 ^ 32;
  room : length l.buffer ≡ ARRIVAL;
}

abbrev pub decreases-loop-stop : goal.decreases-loop-stop
decreases-loop-stop g l = left l.machine
