use Rattle.std.proofs.Common.{◌≡◌, drop, map}
use Rattle.std.specs.Prelude.{filter, slice_get}
use Rattle.anb_protocol.specs.Views.{plan_event}
use Rattle.anb_explain.specs.Explained.{is_message}
use Rattle.anb_trace.proofs.events.message_at.Given as goal

abbrev pub invariant-loop-event : goal.invariant-loop-event
invariant-loop-event l =
    slice_get (filter is_message (map plan_event l.plan)) l.events ≡ slice_get (filter is_message (map plan_event (drop l.event-index l.plan))) l.left
