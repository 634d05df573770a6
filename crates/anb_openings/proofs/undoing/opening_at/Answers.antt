-- The instruction of the opening.
use Rattle.std.proofs.Common.{◌≡◌, ◌≤◌, ◌-◌, List, length, Some, sym, ap, subst, arith}
use Rattle.std.specs.Prelude.{slice_get}
use Rattle.std.specs.List.{AllByRecursion}
use Rattle.anb_base.specs.declared.TheConstants.{ARRIVAL, WIDE}
use Rattle.anb_format.specs.Formats.{FormatValue, field_count}
use Rattle.anb_term.proofs.Lists.{slice_get-at}
use Rattle.anb_plays.specs.Codes.{works, undo}
use Rattle.anb_code.specs.declared.instr.Instr.{Instr}
use Rattle.anb_code.specs.Meaning.{act_of}
use Rattle.anb_code.specs.Verified.{HasItsFormat}
use Rattle.anb_compile.proofs.Valuing.{few_fields, its_format}
use Rattle.anb_openings.proofs.Places.{at_most, is_there}
use Rattle.anb_openings.proofs.undoing.opening_at.Goals as goal

pub undone_by-requires-clause-fields : goal.undone_by-requires-clause-fields
undone_by-requires-clause-fields c =
    let P : List FormatValue → Type 0 = λ l. AllByRecursion (λ (format : FormatValue). field_count format.pieces ≤ 32) l in
    subst P (sym c.formats-formats.ensures.formats) (few_fields ARRIVAL WIDE c.args.code.now c.formats-formats.ensures.verified)

pub undone_by-requires-clause-format : goal.undone_by-requires-clause-format
undone_by-requires-clause-format c =
    let x = c.index-instrs-instruction.result in
    let k = c.args.instruction - 1 in
    let items = c.instrs.result.now in
    let most = at_most c.args.code.now c.args.instruction c.requires in
    let P : List Instr → Type 0 = λ l. slice_get l k ≡ Some x in
    let here = subst P c.instrs.ensures.instrs (slice_get-at items k x (omega (arith, most.0, most.1, ap length c.instrs.ensures.instrs)) c.index-instrs-instruction.is) in
    let Q : List FormatValue → Type 0 = λ l. HasItsFormat l x in
    subst Q (sym c.formats-formats.ensures.formats) (its_format ARRIVAL WIDE c.args.code.now k x c.formats-formats.ensures.verified here)

pub returns : goal.returns
returns c = λ o ks r opening.
    let code = c.args.code.now in
    let x = c.index-instrs-instruction.result in
    let k = c.args.instruction - 1 in
    let items = c.instrs.result.now in
    let most = at_most code c.args.instruction c.requires in
    let P : List Instr → Type 0 = λ l. slice_get l k ≡ Some x in
    let here = subst P c.instrs.ensures.instrs (slice_get-at items k x (omega (arith, most.0, most.1, ap length c.instrs.ensures.instrs)) c.index-instrs-instruction.is) in
    let Q : List FormatValue → Type 0 = λ f. act_of f x ≡ works (undo o ks r) in
    c.undone_by.ensures o ks r (subst Q (sym c.formats-formats.ensures.formats) (is_there code c.args.instruction x o ks r opening here))
