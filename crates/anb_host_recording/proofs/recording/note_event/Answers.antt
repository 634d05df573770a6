use Rattle.std.proofs.Common.{◌≡◌, ℕ, Bool, List, Err, sym, ap, ◌∙◌, subst, refl}
use Rattle.anb_recording.specs.Journals.{OthersStay}
use Rattle.anb_recording.specs.Lines.{lines_text}
use Rattle.anb_host_recording.specs.Entries.{line_in, put_into}
use Rattle.anb_host_recording.proofs.Keeping.{one_noted, one_unwritten}
use Rattle.anb_host_recording.proofs.recording.note_event.Goals as goal

pub returns-in-Ok-put : goal.returns-in-Ok-put
returns-in-Ok-put g c = λ event of_session starts line_is plain.
    let old = g.J.Store.state c.args.journal.now in
    let new = g.J.Store.state c.put.new.journal in
    one_noted c.args.folder.now event c.args.told.now (sym c.is_refused.ensures ∙ c.if-is_refused.false) c.args.session of_session c.in-Ok.name c.in-Ok.ensures.name old new
    c.in-Ok.lines.items (c.in-Ok.ensures.lines (lines_text (line_in event)) line_is) plain c.in-Ok.ensures.plain
    (c.in-Ok-put.ensures.put ∙ ap (λ (n : List ℕ). put_into c.args.starts old n c.deref.result.now) c.as_str.ensures ∙ ap (λ (t : List ℕ). put_into c.args.starts old c.in-Ok.name t) c.deref.ensures.value
    ∙ ap (λ (b : Bool). put_into b old c.in-Ok.name c.in-Ok.lines.items) (sym starts))
    (c.in-Ok-put.ensures.quiet (λ is. cc)) (subst (λ (n : List ℕ). OthersStay (λ other. other ≡ n) old new) c.as_str.ensures c.in-Ok-put.ensures.others)

pub returns-in-Err-Failed : goal.returns-in-Err-Failed
returns-in-Err-Failed g c = λ event of_session starts line_is plain.
    let old = g.J.Store.state c.args.journal.now in
    let new = g.J.Store.state c.put.new.journal in
    one_unwritten c.args.folder.now event c.args.told.now (sym c.is_refused.ensures ∙ c.if-is_refused.false) c.args.session of_session c.in-Ok.name c.in-Ok.ensures.name old new
    (c.in-Err-Failed.ensures.cause (ap Err c.in-Err-Failed.field-0-is)) c.in-Err-Failed.ensures.never_falls (subst (λ (n : List ℕ). OthersStay (λ other. other ≡ n) old new) c.as_str.ensures c.in-Err-Failed.ensures.others)
