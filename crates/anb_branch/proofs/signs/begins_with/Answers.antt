use Rattle.std.proofs.Common.{◌+◌, ◌∷◌, sym, ap, arith, Some, None, drop}
use Rattle.std.proofs.lemmas.Bool.Decides.{Decides-eqb}
use Rattle.std.proofs.lemmas.Slice.Eq.{strip_prefix_is}
use Rattle.anb_format.specs.Formats.{head}
use Rattle.anb_format.specs.declared.pieces.Piece.{Piece}
use Rattle.anb_branch.proofs.Heads.{begins_nowhere, begins_further, begins_at_field, begins_at_end, begins_not}
use Rattle.anb_branch.proofs.signs.begins_with.Goals as goal

pub loop-piece-init : goal.loop-piece-init
loop-piece-init c = begins_nowhere c.args.bytes.now c.args.pieces.now

pub returns-in-None : goal.returns-in-None
returns-in-None c =
    let i = c.loop-piece.piece-index in
    let other = strip_prefix_is Decides-eqb c.loop-piece.rest.now c.as_slice.result.now None c.in-None.ensures.cases in
    sym (begins_not c.args.bytes.now c.args.pieces.now c.loop-piece.rest.now c.in-Lit.text i c.piece-item.result (omega (arith, c.loop-piece-test.true)) c.piece-item.is c.in-Lit.is (rw c.as_slice.ensures at other) c.loop-piece.invariant)

pub returns-in-Field : goal.returns-in-Field
returns-in-Field c =
    let i = c.loop-piece.piece-index in
    sym (begins_at_field c.args.bytes.now c.args.pieces.now c.loop-piece.rest.now i c.piece-item.result (omega (arith, c.loop-piece-test.true)) c.piece-item.is
    (ap (λ (p : Piece). head (p ∷ drop (i + 1) c.args.pieces.now)) c.in-Field.is) c.loop-piece.invariant)

pub loop-piece-preserved : goal.loop-piece-preserved
loop-piece-preserved c =
    let i = c.loop-piece.piece-index in
    let cut = strip_prefix_is Decides-eqb c.loop-piece.rest.now c.as_slice.result.now (Some c.in-Some.behind) c.in-Some.ensures.cases in
    begins_further c.args.bytes.now c.args.pieces.now c.loop-piece.rest.now c.in-Some.behind.now c.in-Lit.text i c.piece-item.result (omega (arith, c.loop-piece-test.true)) c.piece-item.is c.in-Lit.is (rw c.as_slice.ensures at cut) c.loop-piece.invariant

pub returns : goal.returns
returns c = sym (begins_at_end c.args.bytes.now c.args.pieces.now c.loop-piece.rest.now c.loop-piece.piece-index (omega (arith, c.loop-piece-test.false, c.loop-piece.auto.piece-index-end)) c.loop-piece.invariant)
