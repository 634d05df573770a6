use Rattle.std.proofs.Common.{map, take}
use Rattle.anb_machine.specs.Machines.{gives}
use Rattle.anb_transcript.specs.declared.transcript.TranscriptLine.TheVariants.{In}
use Rattle.anb_partner.specs.Steps.{Reaches}
use Rattle.anb_partner.proofs.talking.hand_in.Given as goal

abbrev pub invariant-loop-value : goal.invariant-loop-value
invariant-loop-value l = Reaches (gives l.fn.machine) (gives l.machine) (map In (take l.value-index l.values))
