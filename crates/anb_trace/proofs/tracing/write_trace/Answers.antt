use Rattle.std.proofs.Common.{◌++◌, List, ℕ, refl}
use Rattle.anb_seal.specs.Streams.{draw_of}
use Rattle.anb_text.proofs.Written.{due_as, last_part, not_all, one_part}
use Rattle.anb_trace.specs.Traces.{known_lines, told_all}
use Rattle.anb_trace.specs.Words.{subject_of}
use Rattle.anb_trace.proofs.Running.{wanting}
use Rattle.anb_trace.proofs.tracing.write_trace.Goals as goal

pub returns-in-Err-clause-written : goal.returns-in-Err-clause-written
returns-in-Err-clause-written g c =
    let s = subject_of c.args.protocol.now c.args.code.now c.args.explanation.now in
    let known : List ℕ = known_lines s c.args.initial.now in
    let rest : List ℕ = told_all s (draw_of c.args.seed.now c.args.session) c.args.code.now.instrs c.args.initial.now 0 0 0 0 c.args.arrivals.now in
    not_all (known ++ rest) _ _ _ _ _ _ known rest (due_as (known ++ rest) (known ++ rest) _ _ refl) c.in-Err.no (c.in-Err.ensures.written known c.known_lines.ensures)

pub returns-in-Ok-copies-clause-written : goal.returns-in-Ok-copies-clause-written
returns-in-Ok-copies-clause-written g c =
    let s = subject_of c.args.protocol.now c.args.code.now c.args.explanation.now in
    let known : List ℕ = known_lines s c.args.initial.now in
    let rest : List ℕ = told_all s (draw_of c.args.seed.now c.args.session) c.args.code.now.instrs c.args.initial.now 0 0 0 0 c.args.arrivals.now in
    let due = one_part (known ++ rest) _ _ _ _ _ _ known rest (due_as (known ++ rest) (known ++ rest) _ _ refl) c.in-Ok.field-0 (c.in-Ok.ensures.written known c.known_lines.ensures) in
    last_part (known ++ rest) _ _ _ _ _ _ rest due c.write_run.result (rw c.in-Ok-copies.ensures at c.write_run.ensures.written)

pub returns-in-Err-copies-clause-written : goal.returns-in-Err-copies-clause-written
returns-in-Err-copies-clause-written g c =
    let s = subject_of c.args.protocol.now c.args.code.now c.args.explanation.now in
    let known : List ℕ = known_lines s c.args.initial.now in
    let rest : List ℕ = told_all s (draw_of c.args.seed.now c.args.session) c.args.code.now.instrs c.args.initial.now 0 0 0 0 c.args.arrivals.now in
    wanting (known ++ rest) _ _ _ _ rest (one_part (known ++ rest) _ _ _ _ _ _ known rest (due_as (known ++ rest) (known ++ rest) _ _ refl) c.in-Ok.field-0 (c.in-Ok.ensures.written known c.known_lines.ensures))
