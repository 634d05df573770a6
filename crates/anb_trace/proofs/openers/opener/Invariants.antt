use Rattle.std.proofs.Common.{◌≡◌, None}
use Rattle.anb_trace.specs.Openers.{first_below}
use Rattle.anb_trace.specs.Trying.{is_opener}
use Rattle.anb_trace.proofs.openers.opener.Given as goal

abbrev pub invariant-loop-mark : goal.invariant-loop-mark
invariant-loop-mark l = first_below (is_opener l.code l.registers l.trial) l.mark-index ≡ None
