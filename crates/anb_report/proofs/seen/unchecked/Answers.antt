use Rattle.std.proofs.Common.{◌≤◌, ◌<◌, ◌^◌, List, sym, subst, arith}
use Rattle.std.specs.List.{AllByRecursion}
use Rattle.anb_base.specs.declared.TheConstants.{ARRIVAL, WIDE}
use Rattle.anb_format.specs.Formats.{FormatValue, field_count}
use Rattle.anb_code.specs.declared.instr.Instr.{Instr}
use Rattle.anb_code.specs.Verified.{count_registers}
use Rattle.anb_compile.proofs.Valuing.{few_fields}
use Rattle.anb_report.specs.Looking.{opened}
use Rattle.anb_report.proofs.Looked.{opened_written}
use Rattle.anb_report.proofs.seen.unchecked.Goals as goal

pub unchecked_in-requires-clause-fields : goal.unchecked_in-requires-clause-fields
unchecked_in-requires-clause-fields c =
    let P : List FormatValue → Type 0 = λ l. AllByRecursion (λ (format : FormatValue). field_count format.pieces ≤ 32) l in
    subst P (sym c.formats.ensures.formats) (few_fields ARRIVAL WIDE c.args.code.now c.formats.ensures.verified)

pub unchecked_in-requires-clause-few : goal.unchecked_in-requires-clause-few
unchecked_in-requires-clause-few c =
    let code = c.args.code.now in
    let v = c.formats.ensures.verified in
    let all : count_registers code.formats code.instrs < 2 ^ 32 = omega (arith, v.few_registers) in
    subst (λ (l : List Instr). count_registers c.formats.result.now l < 2 ^ 32) (sym c.instrs.ensures.instrs)
    (subst (λ (l : List FormatValue). count_registers l code.instrs < 2 ^ 32) (sym c.formats.ensures.formats) all)

pub unchecked_in-requires-clause-written : goal.unchecked_in-requires-clause-written
unchecked_in-requires-clause-written c =
    let code = c.args.code.now in
    let each = c.formats.ensures.verified.instrs in
    subst (λ (l : List Instr). AllByRecursion (λ r. r < count_registers c.formats.result.now l) (opened l)) (sym c.instrs.ensures.instrs)
    (subst (λ (l : List FormatValue). AllByRecursion (λ r. r < count_registers l code.instrs) (opened code.instrs)) (sym c.formats.ensures.formats) (opened_written code.formats code.instrs each))
