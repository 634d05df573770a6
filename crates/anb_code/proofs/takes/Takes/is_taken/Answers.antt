use Rattle.std.proofs.Common.{ap, sym, ◌∙◌}
use Rattle.anb_code.specs.RawValue.{RawInstrValue}
use Rattle.anb_code.proofs.TakenTexts.{taken_is}
use Rattle.anb_code.proofs.takes.Takes.is_taken.Goals as goal

pub returns-then-is_take : goal.returns-then-is_take
returns-then-is_take c = λ before known.
    taken_is before c.args.instr.now c.as_str.result.now c.contains_key.result (c.contains_key.ensures ∙ known.texts c.as_str.result.now)
    (c.as_str.ensures ∙ ap (λ (i : RawInstrValue). i.name) c.instr.view_is) (sym c.is_take.ensures ∙ c.if-is_take.true)
