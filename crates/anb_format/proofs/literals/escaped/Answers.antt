use Rattle.std.proofs.Common.{arith, sym, ◌∙◌}
use Rattle.anb_format.proofs.Characters.{hexadecimal}
use Rattle.anb_format.proofs.literals.escaped.Goals as goal

pub returns-in_ok-byte-in-120-clause-some : goal.returns-in_ok-byte-in-120-clause-some
returns-in_ok-byte-in-120-clause-some c =
    hexadecimal c.args.text.now _ _ (omega arith) (omega arith)
    (sym c.hex_digit.ensures.value ∙ c.in_ok-hex_digit-in-120.was)
    (sym c.hex_digit-in-120.ensures.value ∙ c.in_ok-byte-in-120.was)
