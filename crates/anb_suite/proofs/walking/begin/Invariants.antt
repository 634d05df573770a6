use Rattle.std.proofs.Common.{drop}
use Rattle.anb_suite.specs.Walks.{events_in, IsBegunTo}
use Rattle.anb_suite.proofs.walking.begin.Given as goal

abbrev pub invariant-loop-event : goal.invariant-loop-event
invariant-loop-event l = IsBegunTo (events_in l.events) (events_in (drop l.event-index l.events)) l.walk
