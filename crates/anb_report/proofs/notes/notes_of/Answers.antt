use Rattle.std.proofs.Common.{◌≤◌, ◌<◌, ◌^◌, List, sym, subst, arith}
use Rattle.std.specs.List.{AllByRecursion}
use Rattle.anb_base.specs.declared.TheConstants.{ARRIVAL, WIDE}
use Rattle.anb_format.specs.Formats.{FormatValue, field_count}
use Rattle.anb_code.specs.declared.instr.Instr.{Instr}
use Rattle.anb_code.specs.Verified.{count_registers}
use Rattle.anb_compile.proofs.Valuing.{few_fields}
use Rattle.anb_report.proofs.notes.notes_of.Goals as goal

pub notes_in-requires-clause-fields : goal.notes_in-requires-clause-fields
notes_in-requires-clause-fields c =
    let P : List FormatValue → Type 0 = λ l. AllByRecursion (λ (format : FormatValue). field_count format.pieces ≤ 32) l in
    subst P (sym c.formats.ensures.formats) (few_fields ARRIVAL WIDE c.args.code.now c.formats.ensures.verified)

pub notes_in-requires-clause-few : goal.notes_in-requires-clause-few
notes_in-requires-clause-few c =
    let code = c.args.code.now in
    let v = c.formats.ensures.verified in
    let all : count_registers code.formats code.instrs < 2 ^ 32 = omega (arith, v.few_registers) in
    subst (λ (l : List Instr). count_registers c.formats.result.now l < 2 ^ 32) (sym c.instrs.ensures.instrs)
    (subst (λ (l : List FormatValue). count_registers l code.instrs < 2 ^ 32) (sym c.formats.ensures.formats) all)
