use Rattle.std.proofs.Common.{◌≡◌, ◌++◌, map, drop}
use Rattle.anb_term.specs.View.{tree_of}
use Rattle.anb_plays.specs.Honest.{made}
use Rattle.anb_openings.specs.Walks.{events_in}
use Rattle.anb_openings.proofs.walking.made_in.Given as goal

abbrev pub invariant-loop-event : goal.invariant-loop-event
invariant-loop-event l = map tree_of l.terms.items ++ made (events_in (drop l.event-index l.events)) ≡ made (events_in l.events)
