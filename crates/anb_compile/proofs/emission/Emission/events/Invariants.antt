use Rattle.std.proofs.Common.{◌≡◌, map, take, drop}
use Rattle.anb_code.specs.Taking.{take_texts}
use Rattle.anb_protocol.specs.Views.{plan_event}
use Rattle.anb_compile.specs.Writing.{Context}
use Rattle.anb_compile.specs.Emitting.{IsPlan, HasDone}
use Rattle.anb_compile.proofs.emission.Emission.events.Given as goal

abbrev pub invariant-loop-event : goal.invariant-loop-event
invariant-loop-event l = record {
  texts : take_texts l.self.writer.code.items ≡ take_texts l.fn.self.writer.code.items;
  done : (c : Context) → IsPlan c (map plan_event l.events) → HasDone c (map plan_event (take l.event-index l.events)) (map plan_event (drop l.event-index l.events)) l.self;
}
