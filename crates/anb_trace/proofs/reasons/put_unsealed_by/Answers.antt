use Rattle.std.proofs.Common.{List, ℕ, ◌++◌, ◌∙◌, ap, append_assoc}
use Rattle.std.specs.Prelude.{codes}
use Rattle.anb_lemmas.proofs.Results.{on_ok_map}
use Rattle.anb_trace.specs.Tracing.{subject_in}
use Rattle.anb_trace.specs.Words.{term_at}
use Rattle.anb_trace.proofs.reasons.put_unsealed_by.Goals as goal

pub returns-in_ok-extend_from_slice-in-Some : goal.returns-in_ok-extend_from_slice-in-Some
returns-in_ok-extend_from_slice-in-Some c =
    let key = term_at (subject_in c.args.subject.now) c.in-Some.key in
    rw c.in-Some.is (on_ok_map c.put_term_at.result
    (λ h. h ∙ ap (λ (x : List ℕ). x ++ key) c.in_ok-extend_from_slice-in-Some.ensures.items ∙ append_assoc c.args.out.now.items (codes "it opens under ") key)
    c.put_term_at.ensures)

pub returns-in_ok-extend_from_slice-in-None : goal.returns-in_ok-extend_from_slice-in-None
returns-in_ok-extend_from_slice-in-None c = rw c.in-None.is c.in_ok-extend_from_slice-in-None.ensures.items
