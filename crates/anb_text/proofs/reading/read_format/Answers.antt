use Rattle.std.proofs.Common.{◌≡◌, length, rules, sym, ◌∙◌}
use Rattle.anb_text.proofs.Choices.{of_some}
use Rattle.anb_text.proofs.ReadFacts.{no_format_empty, no_format_name, no_format_pieces, nothing_left}
use Rattle.anb_text.proofs.reading.read_format.Goals as goal

pub returns-in_default-clause-none : goal.returns-in_default-clause-none
returns-in_default-clause-none c = no_format_name c.args.text.now c.first_word.result.0.now c.first_word.result.1.now c.first_word.ensures.stands c.first_word.ensures.word c.first_word.ensures.end (sym c.in_default.is ∙ c.in_ok-name.ensures)

pub returns-in_default-2-clause-none : goal.returns-in_default-2-clause-none
returns-in_default-2-clause-none c = no_format_pieces c.args.text.now c.first_word.result.0.now c.first_word.result.1.now c.first_word.ensures.stands c.first_word.ensures.word c.first_word.ensures.end (search rules)

pub returns-then-is_empty-clause-none : goal.returns-then-is_empty-clause-none
returns-then-is_empty-clause-none c =
    let some = of_some _ c.in_ok-pieces.field-0 c.in-Some-2.pieces c.in-Some-2.is c.in_ok-pieces.ensures.some in
    let none : length c.in-Some-2.pieces.items ≡ 0 = search rules in
    no_format_empty c.args.text.now c.first_word.result.0.now c.first_word.result.1.now c.first_word.ensures.stands c.first_word.ensures.word c.first_word.ensures.end
    (nothing_left c.first_word.result.1.now c.in-Some-2.pieces.items none some.1)
