use Rattle.std.proofs.Common.{[], Ok, refl, ap, ◌∙◌, sym}
use Rattle.anb_base.specs.Bytes.{is_bytes-IsBytes}
use Rattle.anb_format.specs.declared.pieces.Piece.TheVariants.{Lit}
use Rattle.anb_syntax.specs.Words.{literal}
use Rattle.anb_read.specs.Places.{toks}
use Rattle.anb_read.proofs.Passing.{passes_kind, passes_literal}
use Rattle.anb_read.proofs.single.piece.Goals as goal

pub returns-in-Some : goal.returns-in-Some
returns-in-Some c = passes_kind c.in-Name.bytes.now c.in-Some.kind (toks c.args.text.now c.args.places.now) (toks c.args.text.now c.others.result.now) c.in-Name.ensures c.in-Some.ensures (c.others.ensures c.args.text.now)

pub returns-in_ok-bytes-in-Literal : goal.returns-in_ok-bytes-in-Literal
returns-in_ok-bytes-in-Literal c =
    passes_literal c.in_ok-bytes-in-Literal.bytes (toks c.args.text.now c.args.places.now) (toks c.args.text.now c.others-in-Literal.result.now) (ap literal c.in_ok-bytes-in-Literal.ensures ∙ c.in-Literal.ensures) (is_bytes-IsBytes c.in_ok-bytes-in-Literal.bytes c.literal_piece.ensures.bytes) (c.others-in-Literal.ensures c.args.text.now)
    ∙ ap (λ p. Ok (p, toks c.args.text.now c.others-in-Literal.result.now)) (sym c.literal_piece.ensures.piece)

pub returns-in-Quotes : goal.returns-in-Quotes
returns-in-Quotes c =
    passes_literal [] (toks c.args.text.now c.args.places.now) (toks c.args.text.now c.others-in-Quotes.result.now) c.in-Quotes.ensures refl (c.others-in-Quotes.ensures c.args.text.now)
    ∙ ap (λ b. Ok (Lit b, toks c.args.text.now c.others-in-Quotes.result.now)) (sym (c.new-in-Quotes.ensures ∙ c.new.ensures.items))
