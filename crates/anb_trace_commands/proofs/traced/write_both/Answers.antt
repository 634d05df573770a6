use Rattle.std.proofs.Common.{◌++◌, List, ℕ, refl, sym}
use Rattle.anb_text.proofs.Written.{due_as, last_part, not_all, one_part}
use Rattle.anb_trace.specs.Traces.{trace}
use Rattle.anb_trace.specs.Words.{subject_of}
use Rattle.anb_trace_commands.specs.TraceCommand.{differing_line}
use Rattle.anb_trace_commands.proofs.traced.write_both.Goals as goal

pub returns-in-Err-clause-written : goal.returns-in-Err-clause-written
returns-in-Err-clause-written g c =
    let p = c.args.prepared.now in
    let text : List ℕ = trace (subject_of c.args.protocol.now p.code c.args.explanation.now) p.initial p.seed c.args.session c.args.arrivals.now in
    let rest : List ℕ = differing_line c.args.status.now in
    not_all (text ++ rest) _ _ _ _ _ _ text rest (due_as (text ++ rest) (text ++ rest) _ _ refl) c.in-Err.no (rw (sym c.as_slice-initial.ensures) c.in-Err.ensures.written)

pub returns-clause-written : goal.returns-clause-written
returns-clause-written g c =
    let p = c.args.prepared.now in
    let text : List ℕ = trace (subject_of c.args.protocol.now p.code c.args.explanation.now) p.initial p.seed c.args.session c.args.arrivals.now in
    let rest : List ℕ = differing_line c.args.status.now in
    let due = one_part (text ++ rest) _ _ _ _ _ _ text rest (due_as (text ++ rest) (text ++ rest) _ _ refl) c.in-Ok.field-0 (rw (sym c.as_slice-initial.ensures) c.in-Ok.ensures.written) in
    last_part (text ++ rest) _ _ _ _ _ _ rest due c.write_part.result (c.write_part.ensures.written rest c.differing_line.ensures)
