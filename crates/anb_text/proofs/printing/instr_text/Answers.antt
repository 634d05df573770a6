use Rattle.std.proofs.Common.{◌-◌, refl}
use Rattle.anb_text.proofs.Printed.{few_fields, few_taken}
use Rattle.anb_text.proofs.printing.instr_text.Goals as goal

pub count_registers-written-requires-clause-fields : goal.count_registers-written-requires-clause-fields
count_registers-written-requires-clause-fields c = rw c.formats.ensures.formats (few_fields c.args.code.now c.formats.ensures.verified)

pub count_registers-written-requires-clause-few : goal.count_registers-written-requires-clause-few
count_registers-written-requires-clause-few c = rw (c.formats.ensures.formats, c.instrs.ensures.instrs) (few_taken c.args.code.now (c.args.at - 1) c.formats.ensures.verified)

pub instr_text_behind-requires-clause-written : goal.instr_text_behind-requires-clause-written
instr_text_behind-requires-clause-written c = rw (c.count_registers-written.ensures, c.formats.ensures.formats, c.instrs.ensures.instrs) refl
