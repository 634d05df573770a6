use Rattle.std.proofs.Common.{◌+◌, ◌++◌, drop, sym, ap, ◌∙◌, arith, append_assoc}
use Rattle.std.specs.List.{flat_map}
use Rattle.anb_lemmas.proofs.Lists.{drop_at_got}
use Rattle.anb_term.proofs.Lists.{slice_get-at}
use Rattle.anb_report.specs.RoleCharts.{note_over}
use Rattle.anb_report.proofs.charting.put_notes_over.Goals as goal

pub loop-note-preserved : goal.loop-note-preserved
loop-note-preserved c =
    let f = note_over c.args.protocol.now c.args.role in
    let notes = c.args.notes.now in
    let i = c.loop-note.note-index in
    let x = c.note-item.result in
    let here = slice_get-at notes i x (omega arith) c.note-item.is in
    let out = c.loop-note.out.items in
    let later = flat_map f (drop (i + 1) notes) in
    let put = rw c.as_slice.ensures at c.in_ok-put_note_over.ensures in
    ap (λ l. l ++ later) put ∙ append_assoc out (f x) later ∙ ap (λ l. out ++ l) (sym (ap (flat_map f) (drop_at_got notes i x here))) ∙ c.loop-note.invariant
