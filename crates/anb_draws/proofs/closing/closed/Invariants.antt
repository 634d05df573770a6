use Rattle.std.proofs.Common.{◌≡◌, map, take}
use Rattle.anb_close.specs.Entries as entries
use Rattle.anb_protocol.specs.Views.{plan_event}
use Rattle.anb_compile.specs.Unsent.{labels_of}
use Rattle.anb_draws.proofs.closing.closed.Given as goal

abbrev pub invariant-loop-event : goal.invariant-loop-event
invariant-loop-event l = entries.labels_of l.closure ≡ labels_of (map plan_event (take l.event-index l.events))
