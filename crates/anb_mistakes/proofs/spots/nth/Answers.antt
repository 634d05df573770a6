use Rattle.std.proofs.Common.{◌+◌, ap, ◌∙◌, drop, map}
use Rattle.anb_syntax.specs.Views.{tok_of}
use Rattle.anb_syntax.specs.declared.tokens.TokenKind.TheVariants.{Colon}
use Rattle.anb_mistakes.specs.Spots.{nth}
use Rattle.anb_mistakes.proofs.Finding.{not_here, one_here}
use Rattle.anb_mistakes.proofs.spots.nth.Goals.{then-is_spot+else-left-eq0, else-is_spot}
use Rattle.anb_mistakes.proofs.spots.nth.Goals as goal

pub loop-i-preserved : goal.loop-i-preserved
loop-i-preserved c =
    let text = c.args.text.now in
    let x = c.args.name.now in
    let b = c.args.behind in
    let all = c.args.tokens.now in
    let i = c.loop-i.i in
    let rest = map (tok_of text) (drop (i + 1) all) in
    (elim c.if-is_spot.branch [
      | then-is_spot+else-left-eq0 w ↦ one_here text x b all i (record { kind = Colon; at = 0; len = 0 }) c.loop-i-test.true c.is_spot.result c.is_spot.ensures w.if-is_spot.true c.loop-i.left c.if-is_spot.left w.if-left-eq0.false w.left-is
      | else-is_spot w ↦ ap (λ k. nth x b k rest) w.left-is ∙ not_here text x b all i (record { kind = Colon; at = 0; len = 0 }) c.loop-i-test.true c.is_spot.result c.is_spot.ensures w.if-is_spot.false c.loop-i.left
    ]) ∙ c.loop-i.invariant
