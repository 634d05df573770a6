use Rattle.std.proofs.Common.{◌≡◌, ◌++◌, map, drop}
use Rattle.anb_term.specs.View.{tree_of}
use Rattle.anb_plays.specs.Honest.{heard}
use Rattle.anb_openings.specs.Openings.{spared}
use Rattle.anb_openings.specs.Walks.{events_in}
use Rattle.anb_openings.proofs.sparing.spared_arrivals.Given as goal

abbrev pub invariant-loop-event : goal.invariant-loop-event
invariant-loop-event l =
    map tree_of l.arrivals.items ++ map (spared l.spare (tree_of l.opened)) (heard (events_in (drop l.event-index l.events))) ≡ map (spared l.spare (tree_of l.opened)) (heard (events_in l.events))
