use Rattle.std.proofs.Common.{map, take}
use Rattle.anb_close.specs.Entries as entries
use Rattle.anb_protocol.specs.Views.{plan_event}
use Rattle.anb_protocol.specs.WellFormed.{IsProtocol}
use Rattle.anb_compile.specs.Unsent.{labels_of}
use Rattle.anb_reason.specs.Found.{Finds}
use Rattle.anb_reason.specs.Reach.{OccursInOne}
use Rattle.anb_reason.proofs.reasons.reach.Given as goal

abbrev pub invariant-loop-event : goal.invariant-loop-event
invariant-loop-event l = IsProtocol l.p → Finds l.p (entries.labels_of l.closure) (λ u. OccursInOne (labels_of (map plan_event (take l.event-index l.events))) u) l.initial.found l.found
