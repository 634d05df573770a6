use Rattle.std.proofs.Common.{◌∙◌, sym, arith}
use Rattle.anb_honest.proofs.Comparing.{other_kind, no_kind, kind_taken}
use Rattle.anb_honest.proofs.order.behind.Goals as goal

pub returns-then-next-events-clause-none : goal.returns-then-next-events-clause-none
returns-then-next-events-clause-none c = λ formats.
    (c.in-Some.kind, sym (c.kind_of.ensures formats) ∙ c.in-Some.is, no_kind c.args.events.now c.args.next c.in-Some.kind (omega (arith, c.if-next-events.true)))

pub returns-then-not-same_kind-clause-none : goal.returns-then-not-same_kind-clause-none
returns-then-not-same_kind-clause-none c = λ formats. (
  c.in-Some.kind,
  sym (c.kind_of.ensures formats) ∙ c.in-Some.is,
  other_kind c.args.events.now c.args.next c.index-events-next.result c.event_kind.result c.in-Some.kind c.same_kind.result (omega (arith, c.if-next-events.false, c.requires)) c.index-events-next.is c.event_kind.ensures
      c.same_kind.ensures c.if-not-same_kind.true,
)

pub returns-clause-some : goal.returns-clause-some
returns-clause-some c = λ formats.
    kind_taken formats c.args.instr.now c.args.events.now c.args.next c.index-events-next.result c.event_kind.result c.in-Some.kind (omega (arith, c.if-next-events.false, c.requires)) c.index-events-next.is c.event_kind.ensures
    (c.same_kind.ensures.0 c.if-not-same_kind.false) (sym (c.kind_of.ensures formats) ∙ c.in-Some.is)
