use Rattle.std.proofs.Common.{◌∙◌, ap, sym, rules}
use Rattle.std.specs.Str.{bytes_eq}
use Rattle.anb_text.proofs.ReadFacts.{no_number, other_number, this_number}
use Rattle.anb_trace.proofs.fronts.read_number.Goals as goal

pub returns-in_err-number : goal.returns-in_err-number
returns-in_err-number c = c.from_residual.ensures ∙ no_number c.args.digits.now c.parsed.result c.parsed.ensures.again c.in_err-number.was

pub returns-then-is_same : goal.returns-then-is_same
returns-then-is_same c = this_number c.args.digits.now c.in_ok-number.number (search rules) (sym (c.if-is_same.ensures ∙ ap (λ x. bytes_eq x c.args.digits.now) (c.as_bytes.ensures.value ∙ c.format.ensures.text)))

pub returns-else-is_same : goal.returns-else-is_same
returns-else-is_same c = other_number c.args.digits.now c.parsed.result c.in_ok-number.number c.parsed.ensures.again c.in_ok-number.was
    (sym (c.if-is_same.ensures ∙ ap (λ x. bytes_eq x c.args.digits.now) (c.as_bytes.ensures.value ∙ c.format.ensures.text)))
