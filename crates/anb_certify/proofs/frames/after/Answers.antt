use Rattle.std.proofs.Common.{◌+◌, ◌<◌, ◌∷◌, length, map, drop, sym, ap, ◌∙◌, arith}
use Rattle.anb_lemmas.proofs.Each.{each_got}
use Rattle.anb_term.proofs.Lists.{slice_get-at, slice_get-map}
use Rattle.anb_protocol.specs.Plans.{term_in}
use Rattle.anb_protocol.specs.Texts.{IsTermOf}
use Rattle.anb_protocol.specs.Views.{plan_event}
use Rattle.anb_certify.specs.Certified.{stray}
use Rattle.anb_certify.proofs.Framing.{events_left, meets, strays}
use Rattle.anb_certify.proofs.frames.after.Goals as goal

pub does_event-requires : goal.does_event-requires
does_event-requires c =
    let events = c.args.events.now in
    let n = c.args.next in
    let x = c.index-events-next.result in
    each_got (λ e. IsTermOf c.args.p.now (term_in e)) (map plan_event events) n (plan_event x) c.requires.terms
    (slice_get-map plan_event events n x (slice_get-at events n x (omega (arith, c.requires.within, c.if-next-events.false)) c.index-events-next.is))

pub returns-then-branch : goal.returns-then-branch
returns-then-branch c =
    let p = c.args.p.now in
    let i = c.args.instr.now in
    let events = c.args.events.now in
    let n = c.args.next in
    let x = c.index-events-next.result in
    let within : c.args.next < length events = omega (arith, c.requires.within, c.if-next-events.false) in
    let left = events_left events n x (slice_get-at events n x within c.index-events-next.is) in (
      omega (arith, c.requires.within, c.if-next-events.false),
      λ is k. ap (λ es. stray p (i ∷ is) es k) left
          ∙ meets p i is (plan_event x) (drop (n + 1) (map plan_event events)) k (sym c.is_work.ensures ∙ c.if-is_work.false) (sym c.in_ok-does_event.ensures ∙ c.if-branch.true),
    )

pub returns : goal.returns
returns c is k =
    let p = c.args.p.now in
    let i = c.args.instr.now in
    let events = c.args.events.now in
    let n = c.args.next in
    let x = c.index-events-next.result in
    let within : c.args.next < length events = omega (arith, c.requires.within, c.if-next-events.false) in
    let left = events_left events n x (slice_get-at events n x within c.index-events-next.is) in
    ap (λ es. stray p (i ∷ is) es k) left
    ∙ strays p i is (plan_event x) (drop (n + 1) (map plan_event events)) k (sym c.is_work.ensures ∙ c.if-is_work.false) (sym c.in_ok-does_event.ensures ∙ c.if-branch.false)
