use Rattle.std.proofs.Common.{◌∙◌, ap, sym, rules}
use Rattle.std.specs.Str.{bytes_eq}
use Rattle.anb_text.proofs.ReadFacts.{no_number, other_number, this_number}
use Rattle.anb_session_commands.proofs.words.read_session.Goals as goal

pub returns-in_err-session : goal.returns-in_err-session
returns-in_err-session c = c.from_residual.ensures ∙ no_number c.args.word.now c.parsed.result c.parsed.ensures c.in_err-session.was

pub returns-then-eq : goal.returns-then-eq
returns-then-eq c =
    this_number c.args.word.now c.in_ok-session.session (search rules) (sym (ap (λ x. bytes_eq x c.args.word.now) c.format.ensures.text) ∙ sym c.eq.ensures ∙ c.if-eq.true)

pub returns-else-eq : goal.returns-else-eq
returns-else-eq c =
    other_number c.args.word.now c.parsed.result c.in_ok-session.session c.parsed.ensures c.in_ok-session.was
    (sym (ap (λ x. bytes_eq x c.args.word.now) c.format.ensures.text) ∙ sym c.eq.ensures ∙ c.if-eq.false)
