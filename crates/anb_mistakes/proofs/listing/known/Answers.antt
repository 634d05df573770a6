use Rattle.std.proofs.Common.{◌+◌, ap, ◌∙◌, drop, map, arith}
use Rattle.anb_syntax.specs.Views.{tok_of}
use Rattle.anb_syntax.specs.declared.tokens.Token.{Token}
use Rattle.anb_syntax.specs.declared.tokens.TokenKind.TheVariants.{Name}
use Rattle.anb_mistakes.specs.Spots.{known}
use Rattle.anb_mistakes.proofs.Passed.{not_known, one_known}
use Rattle.anb_mistakes.proofs.listing.known.Goals.{then-is_here+else-left-eq0, else-is_here}
use Rattle.anb_mistakes.proofs.listing.known.Goals as goal

pub loop-i-preserved : goal.loop-i-preserved
loop-i-preserved c =
    let text = c.args.text.now in
    let x = c.args.spelled.now in
    let all = c.args.tokens.now in
    let i = c.loop-i.i in
    let other : Token = record { kind = Name; at = 0; len = 0 } in
    let begins = c.loop-i.begins in
    let depth = c.loop-i.depth in
    let b = c.parts-begins.result in
    let n = c.depth_after-depth.result in
    let b_is = c.parts-begins.ensures text in
    let n_is = c.depth_after-depth.ensures.depth text in
    record {
      few = omega (arith, c.depth_after-depth.ensures.most, c.loop-i.invariant.few);
      so_far = (elim c.if-is_here.branch [
        | then-is_here+else-left-eq0 w ↦ one_known text x all i other c.loop-i-test.true begins depth c.is_here.result c.is_here.ensures w.if-is_here.true c.loop-i.left c.if-is_here.left w.if-left-eq0.false w.left-is b n b_is n_is
        | else-is_here w ↦ ap (λ k. known x k b n (map (tok_of text) (drop (i + 1) all))) w.left-is ∙ not_known text x all i other c.loop-i-test.true begins depth c.is_here.result c.is_here.ensures w.if-is_here.false c.loop-i.left b n b_is n_is
      ]) ∙ c.loop-i.invariant.so_far;
    }
