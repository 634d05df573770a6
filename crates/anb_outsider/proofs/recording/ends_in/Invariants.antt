use Rattle.std.proofs.Common.{◌≡◌, ◌++◌, map, drop}
use Rattle.anb_accept.specs.Events.{event_value}
use Rattle.anb_outsider.specs.Searching.{ends_from}
use Rattle.anb_outsider.proofs.recording.ends_in.Given as goal

abbrev pub invariant-loop-i : goal.invariant-loop-i
invariant-loop-i l = l.ends.items ++ ends_from l.i (map event_value (drop l.i l.events)) ≡ ends_from 0 (map event_value l.events)
