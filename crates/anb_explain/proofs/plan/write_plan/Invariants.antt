use Rattle.std.proofs.Common.{◌≡◌, ◌≤◌, List, drop, map}
use Rattle.std.specs.Prelude.{count_by}
use Rattle.anb_protocol.specs.Choices.{each_after}
use Rattle.anb_protocol.specs.Plans.{PlanEvent}
use Rattle.anb_protocol.specs.Views.{plan_event}
use Rattle.anb_text.proofs.Written.{Due}
use Rattle.anb_explain.specs.Explained.{has_label, is_message, event_line, plan_text}
use Rattle.anb_explain.proofs.plan.write_plan.Given as goal

abbrev pub invariant-loop-event : goal.invariant-loop-event
invariant-loop-event g l = record {
  before : List PlanEvent;
  labels : l.labels ≡ count_by has_label before;
  messages : l.messages ≡ count_by is_message before;
  few_labels : l.labels ≤ l.event-index;
  few_messages : l.messages ≤ l.event-index;
  due : Due (plan_text l.protocol (map plan_event l.events)) (g.K.Sink.written l.fn.snk) (g.K.Sink.written l.snk) (g.K.Sink.faults l.fn.snk) (g.K.Sink.faults l.snk) (each_after (event_line l.protocol) before (map plan_event (drop l.event-index l.events)));
  kept : g.K.Sink.kept l.snk ≡ g.K.Sink.kept l.fn.snk;
}
