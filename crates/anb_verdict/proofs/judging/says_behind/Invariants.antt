use Rattle.std.proofs.Common.{◌≡◌, length, drop}
use Rattle.std.specs.Prelude.{nat_lt}
use Rattle.anb_transcript.specs.Replays.{messages_of}
use Rattle.anb_verdict.proofs.judging.says_behind.Given as goal

abbrev pub invariant-loop-i : goal.invariant-loop-i
invariant-loop-i l = nat_lt 0 (length (messages_of (drop l.i l.lines))) ≡ nat_lt 0 (length (messages_of (drop l.event l.lines)))
