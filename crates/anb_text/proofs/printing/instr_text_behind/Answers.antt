use Rattle.std.proofs.Common.{◌∙◌, ◌-◌, arith}
use Rattle.anb_text.proofs.Printed.{few_before, few_fields, text_there}
use Rattle.anb_text.proofs.printing.instr_text_behind.Goals as goal

pub put_instr-requires-clause-fields : goal.put_instr-requires-clause-fields
put_instr-requires-clause-fields c = rw c.formats.ensures.formats (few_fields c.args.code.now c.formats.ensures.verified)

pub put_instr-requires-clause-few : goal.put_instr-requires-clause-few
put_instr-requires-clause-few c =
    let is = rw c.instrs.ensures.instrs at c.index-instrs-i.is in
    rw (c.requires.written, c.formats.ensures.formats)
    (few_before c.args.code.now (c.args.at - 1) c.index-instrs-i.result c.formats.ensures.verified (omega (arith, c.requires.from_one, c.requires.there)) is)

pub returns : goal.returns
returns c =
    let is = rw c.instrs.ensures.instrs at c.index-instrs-i.is in
    let line = rw (c.new-out.ensures.items, c.requires.written, c.formats.ensures.formats) at c.in_ok-put_instr.ensures in
    text_there c.args.code.now (c.args.at - 1) c.index-instrs-i.result c.new.result (omega (arith, c.requires.from_one, c.requires.there)) is (c.new.ensures ∙ line)
