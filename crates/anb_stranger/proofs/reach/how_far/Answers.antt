-- One more event, or the end.
use Rattle.std.proofs.Common.{◌+◌, map, Some, refl, ap, ◌∙◌, arith}
use Rattle.anb_term.specs.View.{tree_of}
use Rattle.anb_term.proofs.Lists.{slice_get-at, slice_get-map}
use Rattle.anb_accept.specs.Events.{event_value}
use Rattle.anb_stranger.proofs.Going.{knows, draws, said, came, stops, same_far}
use Rattle.anb_stranger.proofs.reach.how_far.Goals as goal
use Rattle.anb_stranger.proofs.reach.how_far.Goals.{in-Know, in-Fresh, in-Send+in_ok-hear-in-Send, in-Recv+in_ok-can_make-in-Recv+else-not-branch}

pub returns-then-not-branch : goal.returns-then-not-branch
returns-then-not-branch c = λ has f g.
    let events = c.args.events.now in
    let k = c.loop-event.event-index in
    let e = c.event-item.result in
    let here = slice_get-map event_value events k e (slice_get-at events k e (omega arith) c.event-item.is) in
    stops (map event_value events) k c.loop-event.next c.loop-event.last c.args.having.now c.loop-event.having (map tree_of c.args.lines.now) c.loop-event.invariant
    has (tree_of c.in-Recv.term) (here ∙ ap (λ x. Some (event_value x)) c.in-Recv.is) (c.in_ok-can_make-in-Recv.ensures.no has c.if-not-branch.true) f g

pub loop-event-preserved : goal.loop-event-preserved
loop-event-preserved c =
    let events = c.args.events.now in
    let plan = map event_value events in
    let k = c.loop-event.event-index in
    let e = c.event-item.result in
    let n = c.loop-event.next in
    let l = c.loop-event.last in
    let b = c.args.having.now in
    let h = c.loop-event.having in
    let lines = map tree_of c.args.lines.now in
    let far = c.loop-event.invariant in
    let m = c.match-event in
    let here = slice_get-map event_value events k e (slice_get-at events k e (omega arith) c.event-item.is) in
    elim c.match-event.branch [
      | in-Know w ↦ same_far plan (k + 1) n m.next l m.last b h m.having lines w.next-is w.last-is w.having-is
          (knows plan k n l b h lines far _ (here ∙ ap (λ x. Some (event_value x)) w.in-Know.is))
      | in-Fresh w ↦ same_far plan (k + 1) n m.next l m.last b h m.having lines w.next-is w.last-is w.having-is
          (draws plan k n l b h lines far _ (here ∙ ap (λ x. Some (event_value x)) w.in-Fresh.is))
      | in-Send+in_ok-hear-in-Send w ↦ same_far plan (k + 1) (n + 1) m.next l m.last b m.having m.having lines w.next-is w.last-is refl
          (said plan k n l b h lines far _ (here ∙ ap (λ x. Some (event_value x)) w.in-Send.is) m.having (w.having-is ∙ w.in_ok-hear-in-Send.ensures))
      | in-Recv+in_ok-can_make-in-Recv+else-not-branch w ↦ same_far plan (k + 1) (n + 1) m.next (n + 1) m.last b h m.having lines w.next-is w.last-is w.having-is
          (came plan k n l b h lines far _ (here ∙ ap (λ x. Some (event_value x)) w.in-Recv.is) (λ has f g. w.in_ok-can_make-in-Recv.ensures.yes has f g w.if-not-branch.false))
    ]
