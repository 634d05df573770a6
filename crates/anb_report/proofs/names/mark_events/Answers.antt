use Rattle.std.proofs.Common.{◌+◌, drop, map, sym, ap, ◌∙◌, arith}
use Rattle.std.specs.List.{flat_map}
use Rattle.anb_lemmas.proofs.Lists.{drop_at_got}
use Rattle.anb_term.proofs.Lists.{slice_get-at}
use Rattle.anb_protocol.specs.Plans.{term_in}
use Rattle.anb_protocol.specs.Seen.{marked}
use Rattle.anb_protocol.specs.Texts.{atoms_in}
use Rattle.anb_protocol.specs.Views.{plan_event}
use Rattle.anb_report.proofs.Marking.{marked_both}
use Rattle.anb_report.proofs.names.mark_events.Goals as goal

pub loop-event-preserved : goal.loop-event-preserved
loop-event-preserved c =
    let events = c.args.events.now in
    let i = c.loop-event.event-index in
    let x = c.event-item.result in
    let here = slice_get-at events i x (omega arith) c.event-item.is in
    let marks = c.loop-event.marks.items in
    let later = flat_map (λ e. atoms_in (term_in e)) (map plan_event (drop (i + 1) events)) in
    ap (λ m. marked m later) (c.mark_term.ensures ∙ ap (λ t. marked marks (atoms_in t)) c.term.ensures) ∙ sym (marked_both marks (atoms_in (term_in (plan_event x))) later)
    ∙ ap (λ l. marked marks (flat_map (λ e. atoms_in (term_in e)) (map plan_event l))) (sym (drop_at_got events i x here)) ∙ c.loop-event.invariant
