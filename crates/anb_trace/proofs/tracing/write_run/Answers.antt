use Rattle.std.proofs.Common.{◌≡◌, ◌+◌, ◌≤◌, ℕ, List, Some, length, refl, sym, ap, ◌∙◌, subst, arith}
use Rattle.std.specs.Prelude.{codes, slice_get}
use Rattle.std.specs.List.{AllByRecursion}
use Rattle.anb_base.specs.declared.TheConstants.{ARRIVAL, WIDE}
use Rattle.anb_format.specs.Formats.{FormatValue, field_count}
use Rattle.anb_term.proofs.Lists.{slice_get-at}
use Rattle.anb_code.specs.declared.instr.Instr.{Instr}
use Rattle.anb_code.specs.Registers.{count_written}
use Rattle.anb_compile.proofs.Valuing.{few_fields}
use Rattle.anb_machine.proofs.Verified.{few_at}
use Rattle.anb_text.proofs.Written.{due_as, last_part, not_all, one_part, same_due}
use Rattle.anb_trace.specs.declared.steps.Standing.{Standing}
use Rattle.anb_trace.specs.Tracing.{subject_in}
use Rattle.anb_trace.proofs.Placing.{count_front, count_next}
use Rattle.anb_trace.proofs.Running.{at_end, coming, goes_on, is_ready, left_first, left_next, told_next, wanting}
use Rattle.anb_trace.proofs.tracing.write_run.Goals as goal

pub loop-at-init : goal.loop-at-init
loop-at-init g c =
    let s = subject_in c.args.subject.now in
    let start : Standing = record { registers = c.args.registers; events = 0; drawn = 0; arrivals = c.args.arrivals } in
    record {
      placed = refl;
      within = (omega arith, omega arith);
      left = left_first s c.args.seed.now c.args.session c.formats-formats.ensures.verified start c.requires.count;
      due = due_as (coming s c.args.seed.now c.args.session start 0 0) (coming s c.args.seed.now c.args.session start 0 0) _ _ refl;
      kept = refl;
    }

pub step-requires-clause-at : goal.step-requires-clause-at
step-requires-clause-at g c =
    let x = c.instr-item.result in
    let i = c.loop-at.at in
    let P : List Instr → Type 0 = λ l. slice_get l i ≡ Some x in
    subst P c.instrs-instr-items.ensures.instrs (slice_get-at c.instrs-instr-items.result.now i x (omega arith) c.instr-item.is)

pub step-requires-clause-ready : goal.step-requires-clause-ready
step-requires-clause-ready g c =
    is_ready (subject_in c.args.subject.now) c.args.seed.now c.args.session c.loop-at.at c.instr-item.result (step-requires-clause-at g c) c.loop-at.first c.loop-at.standing c.loop-at.invariant.left

pub step-requires-clause-fields : goal.step-requires-clause-fields
step-requires-clause-fields g c =
    let code = c.args.subject.now.code.now in
    let verified = c.formats-formats.ensures.verified in
    few_at code.formats verified.formats code.instrs verified.instrs c.loop-at.at c.instr-item.result (step-requires-clause-at g c)

pub returns-in-Err-clause-written : goal.returns-in-Err-clause-written
returns-in-Err-clause-written g c = wanting _ _ _ _ _ _ c.loop-at.invariant.due

pub returns-in-Err-write_bytes-clause-written : goal.returns-in-Err-write_bytes-clause-written
returns-in-Err-write_bytes-clause-written g c =
    let s = subject_in c.args.subject.now in
    let x = c.instr-item.result in
    let i = c.loop-at.at in
    let P : List Instr → Type 0 = λ l. slice_get l i ≡ Some x in
    let here = subst P c.instrs-instr-items.ensures.instrs (slice_get-at c.instrs-instr-items.result.now i x (omega arith) c.instr-item.is) in
    let told = c.in-Ok.told in
    let next = told_next s c.args.seed.now c.args.session i x here c.loop-at.first c.loop-at.standing told c.step.new.standing c.in-Ok.ensures.tells in
    let part : List ℕ = told.text.items in
    not_all _ _ _ _ _ _ _ part _ (same_due _ _ _ _ _ _ _ next c.loop-at.invariant.due) c.in-Err-write_bytes.no (rw (sym c.deref.ensures.value) c.in-Err-write_bytes.ensures.written)

pub count_written-requires : goal.count_written-requires
count_written-requires g c =
    let P : List FormatValue → Type 0 = λ l. AllByRecursion (λ (format : FormatValue). field_count format.pieces ≤ 32) l in
    subst P (sym c.formats-formats.ensures.formats) (few_fields ARRIVAL WIDE c.args.subject.now.code.now c.formats-formats.ensures.verified)

pub overflow_add-first : goal.overflow_add-first
overflow_add-first g c =
    let code = c.args.subject.now.code.now in
    let x = c.instr-item.result in
    let i = c.loop-at.at in
    let P : List Instr → Type 0 = λ l. slice_get l i ≡ Some x in
    let here = subst P c.instrs-instr-items.ensures.instrs (slice_get-at c.instrs-instr-items.result.now i x (omega arith) c.instr-item.is) in
    let many = c.count_written.ensures ∙ ap (λ (f : List FormatValue). count_written f x) c.formats-formats.ensures.formats in
    omega (arith, c.loop-at.invariant.placed, many, count_next code.formats code.instrs i x here, count_front code.formats code.instrs (i + 1), c.formats-formats.ensures.verified.few_registers)

pub loop-at-preserved : goal.loop-at-preserved
loop-at-preserved g c =
    let s = subject_in c.args.subject.now in
    let code = c.args.subject.now.code.now in
    let v = c.loop-at.invariant in
    let x = c.instr-item.result in
    let i = c.loop-at.at in
    let P : List Instr → Type 0 = λ l. slice_get l i ≡ Some x in
    let here = subst P c.instrs-instr-items.ensures.instrs (slice_get-at c.instrs-instr-items.result.now i x (omega arith) c.instr-item.is) in
    let first = c.loop-at.first in
    let old = c.loop-at.standing in
    let told = c.in-Ok.told in
    let new = c.step.new.standing in
    let on = c.if-not-goes_on.false in
    let many = c.count_written.ensures ∙ ap (λ (f : List FormatValue). count_written f x) c.formats-formats.ensures.formats in
    let next = goes_on s c.args.seed.now c.args.session i x here first old told new c.in-Ok.ensures.tells on in
    let moved = ap (λ n. coming s c.args.seed.now c.args.session new (first + n) (i + 1)) (sym many) in
    let part : List ℕ = told.text.items in
    record {
      placed = omega (arith, v.placed, many, count_next code.formats code.instrs i x here);
      within = c.in-Ok.ensures.within;
      left = left_next s c.args.seed.now c.args.session i x here first old told new on c.in-Ok.ensures.written v.left;
      due = same_due _ _ _ _ _ _ _ moved (one_part _ _ _ _ _ _ _ part _ (same_due _ _ _ _ _ _ _ next v.due) c.in-Ok-write_bytes.field-0 (rw (sym c.deref.ensures.value) c.in-Ok-write_bytes.ensures.written));
      kept = c.write_bytes.ensures.kept ∙ v.kept;
    }

pub returns-clause-written : goal.returns-clause-written
returns-clause-written g c =
    let s = subject_in c.args.subject.now in
    let v = c.loop-at.invariant in
    let over = at_end s c.args.seed.now c.args.session c.loop-at.standing c.loop-at.first c.loop-at.at (omega (arith, ap length c.instrs-instr-items.ensures.instrs)) in
    last_part _ _ _ _ _ _ _ (codes "done\n") (same_due _ _ _ _ _ _ _ over v.due) c.write_bytes-2.result c.write_bytes-2.ensures.written
