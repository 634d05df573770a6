use Rattle.std.proofs.Common.{◌≡◌, false, length, sym, ◌∙◌, Some, None}
use Rattle.std.specs.Prelude.{◌==◌}
use Rattle.std.proofs.lemmas.Bool.Decides.{Decides-eqb}
use Rattle.std.proofs.lemmas.Slice.Eq.{strip_prefix_is}
use Rattle.anb_syntax.specs.declared.tokens.TokenKind.TheVariants.{Name}
use Rattle.anb_mistakes.proofs.Passed.{spelled_further, spelled_not}
use Rattle.anb_mistakes.proofs.listing.spells.Goals as goal

pub returns-in-None : goal.returns-in-None
returns-in-None c =
    let left = c.loop-token.left.now in
    let some : (length left == 0) ≡ false = sym c.is_empty.ensures ∙ c.if-is_empty.false in
    let other = strip_prefix_is Decides-eqb left c.spelling.result.now None c.in-None.ensures.cases in
    spelled_not c.args.text.now c.args.tokens.now c.loop-token.token-index (record { kind = Name; at = 0; len = 0 }) c.loop-token-test.true left some (rw c.spelling.ensures at other)
    ∙ c.loop-token.invariant

pub loop-token-preserved : goal.loop-token-preserved
loop-token-preserved c =
    let left = c.loop-token.left.now in
    let some : (length left == 0) ≡ false = sym c.is_empty.ensures ∙ c.if-is_empty.false in
    let cut = strip_prefix_is Decides-eqb left c.spelling.result.now (Some c.in-Some.rest) c.in-Some.ensures.cases in
    spelled_further c.args.text.now c.args.tokens.now c.loop-token.token-index (record { kind = Name; at = 0; len = 0 }) c.loop-token-test.true left some c.in-Some.rest.now (rw c.spelling.ensures at cut)
    ∙ c.loop-token.invariant
