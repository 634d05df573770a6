use Rattle.std.proofs.Common.{◌∙◌, ap, sym, rules}
use Rattle.std.specs.Str.{bytes_eq}
use Rattle.anb_text.proofs.ReadFacts.{no_number, other_number, this_number}
use Rattle.anb_words.proofs.words.read_number.Goals as goal

pub returns-in_err-number : goal.returns-in_err-number
returns-in_err-number c = c.from_residual.ensures ∙ no_number c.args.digits.now c.parsed.result c.parsed.ensures c.in_err-number.was

pub returns-then-eq : goal.returns-then-eq
returns-then-eq c =
    this_number c.args.digits.now c.in_ok-number.number (search rules) (sym (ap (λ x. bytes_eq x c.args.digits.now) c.format.ensures.text) ∙ sym c.eq.ensures ∙ c.if-eq.true)

pub returns-else-eq : goal.returns-else-eq
returns-else-eq c =
    other_number c.args.digits.now c.parsed.result c.in_ok-number.number c.parsed.ensures c.in_ok-number.was
    (sym (ap (λ x. bytes_eq x c.args.digits.now) c.format.ensures.text) ∙ sym c.eq.ensures ∙ c.if-eq.false)
