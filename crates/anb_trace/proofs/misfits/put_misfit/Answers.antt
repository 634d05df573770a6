use Rattle.std.proofs.Common.{List, ℕ, ◌++◌, ◌∙◌, ap, arith, length}
use Rattle.anb_format.proofs.ReadingLemmas.{next_piece}
use Rattle.anb_trace.specs.Misfits.{misfit}
use Rattle.anb_trace.proofs.Passed.{told_behind, told_end, told_here}
use Rattle.anb_trace.proofs.misfits.put_misfit.Goals as goal

pub returns-in_default : goal.returns-in_default
returns-in_default c =
    let pieces = c.args.pieces.now in
    let bytes = c.args.bytes.now in
    let i = c.loop-piece.piece-index in
    let step = next_piece pieces i c.piece-item.result (omega arith) c.piece-item.is in
    told_here (length bytes) c.loop-piece.field i pieces c.loop-piece.rest.now (misfit pieces bytes) c.loop-piece.invariant.left
    c.piece-item.result step c.loop-piece.out.items _ (rw c.in_default.is at c.in_ok-behind.ensures)
    ∙ ap (λ (x : List ℕ). x ++ misfit pieces bytes) c.loop-piece.invariant.kept

pub loop-piece-preserved : goal.loop-piece-preserved
loop-piece-preserved c =
    let pieces = c.args.pieces.now in
    let bytes = c.args.bytes.now in
    let i = c.loop-piece.piece-index in
    let step = next_piece pieces i c.piece-item.result (omega arith) c.piece-item.is in
    let h = told_behind (length bytes) c.loop-piece.field i pieces c.loop-piece.rest.now (misfit pieces bytes) c.loop-piece.invariant.left
    c.piece-item.result step _ c.in-Some.behind c.loop-piece.out.items _ c.fields_of-field.ensures.fields (rw c.in-Some.is at c.in_ok-behind.ensures) in
    record {
      kept = h.0 ∙ c.loop-piece.invariant.kept;
      left = h.1;
      few = omega (arith, c.loop-piece.invariant.few, c.fields_of-field.ensures.few);
    }

pub returns : goal.returns
returns c =
    let pieces = c.args.pieces.now in
    let bytes = c.args.bytes.now in
    let i = c.loop-piece.piece-index in
    told_end (length bytes) c.loop-piece.field i pieces c.loop-piece.rest.now (misfit pieces bytes) c.loop-piece.invariant.left
    c.loop-piece.out.items _ (omega (arith, c.loop-piece-test.false, c.loop-piece.auto.piece-index-end)) c.in_ok-put_end_due.ensures
    ∙ ap (λ (x : List ℕ). x ++ misfit pieces bytes) c.loop-piece.invariant.kept
