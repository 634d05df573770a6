-- All that is received so far can be made.
use Rattle.std.proofs.Common.{map}
use Rattle.anb_term.specs.View.{tree_of}
use Rattle.anb_accept.specs.Events.{event_value}
use Rattle.anb_stranger.proofs.Going.{Far}
use Rattle.anb_stranger.proofs.reach.how_far.Given as goal

abbrev pub invariant-loop-event : goal.invariant-loop-event
invariant-loop-event l = Far (map event_value l.events) l.event-index l.next l.last l.initial.having l.having (map tree_of l.lines)
