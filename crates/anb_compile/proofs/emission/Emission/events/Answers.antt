use Rattle.std.proofs.Common.{◌≡◌, ◌+◌, List, [], map, take, drop, take_all, refl, sym, ap, ◌∙◌, subst, arith}
use Rattle.std.proofs.lemmas.List.{drop_all}
use Rattle.anb_lemmas.proofs.Lists.{map_drop_next}
use Rattle.anb_protocol.specs.Plans.{PlanEvent}
use Rattle.anb_protocol.specs.Views.{plan_event}
use Rattle.anb_compile.specs.Emitting.{IsPlan, HasDone}
use Rattle.anb_compile.proofs.Lists.{map_taken}
use Rattle.anb_compile.proofs.Whole.{begun_done, events_parted, refused_by}
use Rattle.anb_compile.proofs.emission.Emission.events.Goals as goal

pub loop-event-init : goal.loop-event-init
loop-event-init c = record {
  texts = refl;
  done = λ k plan. begun_done k (map plan_event c.args.events.now) c.args.self.now c.requires.begun.0 plan c.requires.begun.1 c.requires.begun.2;
}

pub event-requires : goal.event-requires
event-requires c =
    let x = c.event-item.result in
    let i = c.loop-event.event-index in
    let items = c.args.events.now in
    let p = c.requires.plan in
    let parted = events_parted plan_event items i x (omega arith) c.event-item.is in
    let here = map_drop_next plan_event items i x (omega arith) c.event-item.is in
    let before = map plan_event (take i items) in
    let P : List PlanEvent → Type 0 = λ l. IsPlan p.0 l in
    let Q : List PlanEvent → Type 0 = λ l. HasDone p.0 before l c.loop-event.self in
    (p.0, before, map plan_event (drop (i + 1) items), subst P parted p.1, subst Q here (c.loop-event.invariant.done p.0 p.1))

pub loop-event-preserved : goal.loop-event-preserved
loop-event-preserved c =
    let x = c.event-item.result in
    let i = c.loop-event.event-index in
    let items = c.args.events.now in
    let v = c.loop-event.invariant in
    let e = c.in-Ok.ensures in
    let parted = events_parted plan_event items i x (omega arith) c.event-item.is in
    let here = map_drop_next plan_event items i x (omega arith) c.event-item.is in
    let on = map_taken plan_event items i x (omega arith) c.event-item.is in
    let before = map plan_event (take i items) in
    let after = map plan_event (drop (i + 1) items) in
    record {
      texts = e.texts ∙ v.texts;
      done = λ k plan.
          let P : List PlanEvent → Type 0 = λ l. IsPlan k l in
          let Q : List PlanEvent → Type 0 = λ l. HasDone k before l c.loop-event.self in
          let R : List PlanEvent → Type 0 = λ l. HasDone k l after c.event.new.self in
          subst R (sym on) (e.does k before after (subst P parted plan) (subst Q here (v.done k plan)));
    }

pub returns-clause-done : goal.returns-clause-done
returns-clause-done c k plan =
    let i = c.loop-event.event-index in
    let items = c.args.events.now in
    let all : take i items ≡ items = take_all i items (omega arith) in
    let none : drop i items ≡ [] = drop_all i items (omega arith) in
    let P : List PlanEvent → Type 0 = λ l. HasDone k l (map plan_event (drop i items)) c.loop-event.self in
    let Q : List PlanEvent → Type 0 = λ l. HasDone k (map plan_event items) l c.loop-event.self in
    subst Q (ap (map plan_event) none) (subst P (ap (map plan_event) all) (c.loop-event.invariant.done k plan))

pub returns-in-Err-clause-refused : goal.returns-in-Err-clause-refused
returns-in-Err-clause-refused c =
    let x = c.event-item.result in
    let i = c.loop-event.event-index in
    let items = c.args.events.now in
    let parted = events_parted plan_event items i x (omega arith) c.event-item.is in
    let here = map_drop_next plan_event items i x (omega arith) c.event-item.is in
    let before = map plan_event (take i items) in
    refused_by (map plan_event items) before (map plan_event (drop (i + 1) items)) (plan_event x) c.loop-event.self c.args.role c.in-Err.no parted
    (λ k plan. let Q : List PlanEvent → Type 0 = λ l. HasDone k before l c.loop-event.self in subst Q here (c.loop-event.invariant.done k plan)) c.in-Err.ensures.blocks
